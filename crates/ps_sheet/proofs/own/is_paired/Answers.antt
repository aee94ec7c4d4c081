use Rattle.std.specs.Prelude.{is_some, false}
use Rattle.std.proofs.Common.{rules, sym, ap}
use Rattle.std.proofs.lemmas.List.Sorted.{answers_always}
use Rattle.ps_lattice.specs.Choice.{pair_cmp}
use Rattle.ps_lattice.specs.ChoiceLaws.{pairs_total}
use Rattle.ps_lattice.proofs.Rising.{find_at, find_in_gap, comparisons_rise}
use Rattle.ps_sheet.proofs.own.is_paired.Goals as goal

-- the pair is where the search found it
pub returns-in-Ok : goal.returns-in-Ok
returns-in-Ok c =
    let here = c.in-Ok.ensures.position (λ e. e.0) (answers_always _ _ _ (λ f a r h called. search rules)) in
    ap is_some (sym (find_at pair_cmp pairs_total c.args.pair c.args.pairs.now c.requires c.in-Ok.field-0
    (c.args.pair, false) c.in-Ok.ensures.bound (here (c.args.pair, false))))

-- the pair isn't one of the pairs
pub returns-in-Err : goal.returns-in-Err
returns-in-Err c =
    let rise = comparisons_rise pair_cmp pairs_total c.args.pair c.args.pairs.now c.requires in
    let parted = c.in-Err.ensures.position (λ e. e.0) (answers_always _ _ _ (λ f a r h called. search rules)) rise in
    ap is_some (sym (find_in_gap pair_cmp pairs_total c.args.pair c.args.pairs.now c.in-Err.field-0 parted.0 parted.1))
