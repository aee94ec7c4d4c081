use Rattle.std.proofs.Common.{◌≡◌, ◌+◌, ◌&&◌, [], ◌∷◌, set, get_or, arith}
use Rattle.std.proofs.Common.{sym, ap, ◌∙◌, eqb, subst}
use Rattle.std.specs.List.{list_any}
use Rattle.std.proofs.lemmas.List.{get_or-set_same}
use Rattle.ps_grid.specs.Chains.{In}
use Rattle.ps_grid.specs.declared.size.TheConstants.{CELLS}
use Rattle.ps_grid.proofs.ChainLemmas.{In-self}
use Rattle.ps_region.specs.Inside.Cells.{with_all}
use Rattle.ps_region.specs.Inside.Counts.{as_one, counted_in}
use Rattle.ps_region.specs.Listed.{listed}
use Rattle.ps_region.proofs.ListedLemmas.{listed_is, walks_listed}
use Rattle.ps_region.proofs.SoleDependents.{sole_nobody, sole_one}
use Rattle.ps_region.proofs.grow.enter_dependents.Goals as goal

pub enter_one-requires-clause-known : goal.enter_one-requires-clause-known
enter_one-requires-clause-known g c =
    c.requires.known c.in-One.e
    (subst (λ xs. In xs c.in-One.e)
    (listed_is c.args.change.now.index.now c.args.d (c.in-One.e ∷ [])
    (sym (c.readers.ensures.one c.in-One.e c.in-One.is)))
    (In-self c.in-One.e []))

pub returns-in-Nobody-clause-members : goal.returns-in-Nobody-clause-members
returns-in-Nobody-clause-members g c =
    ap (with_all c.args.members.now.items)
    (listed_is c.args.change.now.index.now c.args.d [] (sym (c.readers.ensures.nobody c.in-Nobody.is)))

pub returns-in-Nobody-clause-counts : goal.returns-in-Nobody-clause-counts
returns-in-Nobody-clause-counts g c = λ q.
    let n = counted_in c.args.members.now.items c.args.left.now q in
    let same : n ≡ n + 0 = omega arith in
    same ∙ ap (λ xs. n + as_one (list_any (eqb q) xs
    && (g.A.After.formula c.args.change.now.after.now c.args.d
    && g.A.After.refers c.args.change.now.after.now q c.args.d)))
    (listed_is c.args.change.now.index.now c.args.d [] (sym (c.readers.ensures.nobody c.in-Nobody.is)))

pub returns-in-Nobody-clause-sole : goal.returns-in-Nobody-clause-sole
returns-in-Nobody-clause-sole g c =
    let here : get_or (set c.args.sole.now c.index.result CELLS) c.args.d 0 ≡ CELLS =
    ap (λ x. get_or (set c.args.sole.now c.index.result CELLS) x 0) (sym c.index.ensures.index)
    ∙ get_or-set_same c.args.sole.now c.index.result CELLS 0
    (omega (arith, c.index.ensures.in_grid, c.requires.sole_length)) in
    sole_nobody (listed c.args.change.now.index.now c.args.d)
    (get_or (set c.args.sole.now c.index.result CELLS) c.args.d 0)
    (listed_is c.args.change.now.index.now c.args.d [] (sym (c.readers.ensures.nobody c.in-Nobody.is)))
    here

pub returns-in-One-clause-members : goal.returns-in-One-clause-members
returns-in-One-clause-members g c =
    c.enter_one.ensures.members ∙ ap (with_all c.args.members.now.items)
    (listed_is c.args.change.now.index.now c.args.d (c.in-One.e ∷ [])
    (sym (c.readers.ensures.one c.in-One.e c.in-One.is)))

pub returns-in-One-clause-counts : goal.returns-in-One-clause-counts
returns-in-One-clause-counts g c = λ q.
    c.enter_one.ensures.counts q
    ∙ ap (λ xs. counted_in c.args.members.now.items c.args.left.now q + as_one (list_any (eqb q) xs
    && (g.A.After.formula c.args.change.now.after.now c.args.d
    && g.A.After.refers c.args.change.now.after.now q c.args.d)))
    (listed_is c.args.change.now.index.now c.args.d (c.in-One.e ∷ [])
    (sym (c.readers.ensures.one c.in-One.e c.in-One.is)))

pub returns-in-One-clause-sole : goal.returns-in-One-clause-sole
returns-in-One-clause-sole g c =
    let e = c.index-in-One.result in
    let place = c.index-in-One-2.result in
    let here : get_or (set c.args.sole.now place e) c.args.d 0 ≡ e =
    ap (λ x. get_or (set c.args.sole.now place e) x 0) (sym c.index-in-One-2.ensures.index)
    ∙ get_or-set_same c.args.sole.now place e 0
    (omega (arith, c.index-in-One-2.ensures.in_grid, c.requires.sole_length)) in
    sole_one (listed c.args.change.now.index.now c.args.d) (get_or (set c.args.sole.now place e) c.args.d 0) c.in-One.e
    (listed_is c.args.change.now.index.now c.args.d (c.in-One.e ∷ [])
    (sym (c.readers.ensures.one c.in-One.e c.in-One.is)))
    (here ∙ c.index-in-One.ensures.index)
    (let small = c.index-in-One.ensures.in_grid in let is = c.index-in-One.ensures.index in omega (arith, small, is))

pub enter_each-requires-clause-walks : goal.enter_each-requires-clause-walks
enter_each-requires-clause-walks g c =
    walks_listed c.args.change.now.index.now c.args.d (c.readers.ensures.row c.in-Row.walk c.in-Row.is)

pub enter_each-requires-in-TwoRows-clause-walks : goal.enter_each-requires-in-TwoRows-clause-walks
enter_each-requires-in-TwoRows-clause-walks g c =
    walks_listed c.args.change.now.index.now c.args.d (c.readers.ensures.two_rows c.in-TwoRows.walk c.in-TwoRows.is)

pub enter_each-requires-in-Several-clause-walks : goal.enter_each-requires-in-Several-clause-walks
enter_each-requires-in-Several-clause-walks g c =
    walks_listed c.args.change.now.index.now c.args.d c.dependents-walk.ensures.list
