use Rattle.std.proofs.Common.{Result, Ok, Err, sym, ap, ◌∙◌, subst}
use Rattle.std.specs.Prelude.{OnOk}
use Rattle.std.specs.List.{list_all}
use Rattle.ps_index.specs.Stands.{Puts, Stands}
use Rattle.ps_region.specs.Listed.{listed}
use Rattle.ps_cells.specs.Inside.Alone.{is_alone_entry}
use Rattle.ps_cells.specs.Inside.Formulas.{with_puts}
use Rattle.ps_cells.proofs.AloneEntries.{alone_puts}
use Rattle.ps_cells.proofs.change.begin.Goals as goal

-- what is true is true if the result is Ok
when_ok : {T E : Type 0} (r : Result T E) (P : Type 0) → P → OnOk r P
when_ok (Ok t) P p = p
when_ok (Err e) P p = tt

-- entries without formulas are put in by leaving the index as it is

pub returns-then-are_alone-clause-put : goal.returns-then-are_alone-clause-put
returns-then-are_alone-clause-put c =
    when_ok c.begin_alone.result
    ((forms : Puts) → Stands c.args.index.now forms
    → Stands c.args.index.now (with_puts c.changes_by.new.list.items forms))
    (λ forms stands.
    let alone = ap (list_all (is_alone_entry (listed c.args.index.now))) (sym c.deref.ensures.value)
    ∙ (sym c.are_alone.ensures ∙ c.if-are_alone.true) in
    subst (λ (f : Puts). Stands c.args.index.now f)
    (alone_puts (listed c.args.index.now) c.changes_by.new.list.items forms alone) stands)
