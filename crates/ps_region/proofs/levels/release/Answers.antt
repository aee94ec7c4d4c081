use Rattle.std.proofs.Common.{◌≡◌, ◌∷◌, [], arith, false, eqb, get_or, subst, sym}
use Rattle.std.proofs.lemmas.Bool.Decides.{nat_tests}
use Rattle.std.proofs.lemmas.Map.Keys.{apart_from_distinct}
use Rattle.std.specs.List.{IsDistinct}
use Rattle.ps_region.proofs.ListedLemmas.{listed_once, walks_listed}
use Rattle.ps_region.specs.Inside.Cells.{HasSole}
use Rattle.ps_region.specs.Listed.{listed}
use Rattle.ps_region.proofs.levels.release.Goals as goal

pub release_each-requires-clause-walks : goal.release_each-requires-clause-walks
release_each-requires-clause-walks g c =
    walks_listed c.args.change.now.index.now c.args.d (c.readers.ensures.row c.in-Row.walk c.in-Row.is)

pub release_each-requires-in-TwoRows-clause-walks : goal.release_each-requires-in-TwoRows-clause-walks
release_each-requires-in-TwoRows-clause-walks g c =
    walks_listed c.args.change.now.index.now c.args.d (c.readers.ensures.two_rows c.in-TwoRows.walk c.in-TwoRows.is)

pub release_each-requires-in_default-readers-clause-walks : goal.release_each-requires-in_default-readers-clause-walks
release_each-requires-in_default-readers-clause-walks g c =
    walks_listed c.args.change.now.index.now c.args.d c.dependents.ensures.list

pub release_pair-requires-clause-apart : goal.release_pair-requires-clause-apart
release_pair-requires-clause-apart g c =
    let first = c.pair_of.result.0 in
    let second = c.pair_of.result.1 in
    let all = listed c.args.change.now.index.now c.args.d in
    let noted = subst (λ x. HasSole all (get_or c.args.sole.now x 0)) (sym c.index.ensures.index) c.requires.sole in
    let list : all ≡ first ∷ second ∷ [] =
    rw (c.pair_of.ensures.first, c.pair_of.ensures.second) (noted.two c.if-noted-gt-SEVERAL.true) in
    let once : IsDistinct eqb (first ∷ second ∷ []) =
    subst (λ xs. IsDistinct eqb xs) list (listed_once c.args.change.now.index.now c.args.d) in
    let apart : eqb first second ≡ false =
    apart_from_distinct eqb (first ∷ second ∷ []) 0 1 0 once (omega arith) (omega arith) in
    λ same. grind (arith, nat_tests, same, apart)
