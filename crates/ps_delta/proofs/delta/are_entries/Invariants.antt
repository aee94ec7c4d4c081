use Rattle.std.proofs.Common.{◌≢◌, take, All}
use Rattle.ps_delta.specs.State.{empty_cell}
use Rattle.ps_delta.specs.Deltas.{AreInGrid}
use Rattle.ps_delta.proofs.delta.are_entries.Given as goal

abbrev pub invariant-loop-entry : goal.invariant-loop-entry
invariant-loop-entry l = record {
  none_empty : All (λ e. e.1 ≢ empty_cell) (take l.entry-index l.cells);
  in_grid : AreInGrid (take l.entry-index l.cells);
}
