use Rattle.ps_sheet.proofs.FreshCells.{registered_some, counted_some}
use Rattle.ps_sheet.proofs.edit_delta.delta_of.Goals as goal

-- what an edit makes of a cell is new, and so not empty
pub of_filled-requires : goal.of_filled-requires
of_filled-requires c =
    registered_some c.at.result.now _ _ c.in_ok-register-in-Set.ensures.fresh c.with_register.ensures

pub of_filled-requires-in-Add : goal.of_filled-requires-in-Add
of_filled-requires-in-Add c =
    counted_some c.at-state.result.now _ _ c.in_ok-tally-in-Add.ensures.fresh c.with_tally.ensures

pub of_filled-requires-in-Sub : goal.of_filled-requires-in-Sub
of_filled-requires-in-Sub c =
    counted_some c.at-state-in-Sub.result.now _ _ c.in_ok-tally-in-Sub.ensures.fresh c.with_tally-in-Sub.ensures
