use Rattle.std.proofs.Common.{ap, sym, ◌∙◌, None}
use Rattle.std.proofs.lemmas.List.{get_or_past, get_or_read}
use Rattle.ps_eval.specs.Items.{cell_items, first_fault}
use Rattle.ps_shown.specs.declared.kept.Kept.TheVariants.{Empty}
use Rattle.ps_shown.specs.Kept.{value_of}
use Rattle.ps_shown.proofs.faults.fault_at.Goals as goal

pub returns-then-place-kept : goal.returns-then-place-kept
returns-then-place-kept c =
    c.fault.ensures
    ∙ ap (λ x. first_fault (cell_items (value_of x)))
    (get_or_read c.args.kept.now c.args.place c.index-kept-place.result
    c.if-place-kept.true c.index-kept-place.is Empty)

pub returns-else-place-kept : goal.returns-else-place-kept
returns-else-place-kept c =
    ap (λ x. first_fault (cell_items (value_of x)))
    (sym (get_or_past c.args.kept.now c.args.place Empty c.if-place-kept.false))
