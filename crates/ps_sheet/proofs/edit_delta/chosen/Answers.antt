use Rattle.ps_sheet.proofs.FreshCells.{paired_some}
use Rattle.ps_sheet.proofs.edit_delta.chosen.Goals as goal

-- what the edit makes of a cell is new, and so not empty
pub of_filled-requires : goal.of_filled-requires
of_filled-requires c = paired_some c.at-state.result.now _ _ c.in_ok-choice.ensures.fresh c.with_choice.ensures
