use Rattle.std.proofs.Common.{take}
use Rattle.ps_delta.specs.State.{IsBelow, state_at}
use Rattle.ps_delta.specs.Deltas.{state_of}
use Rattle.ps_delta.specs.State.{IsBelow, state_at}
use Rattle.ps_delta.specs.Deltas.{state_of}
use Rattle.ps_delta.proofs.grid.Grid.covers.Given as goal

abbrev pub invariant-loop-entry : goal.invariant-loop-entry
invariant-loop-entry l = IsBelow (state_of (take l.entry-index l.parts)) (state_at l.self)
