use Rattle.std.proofs.Common.{take}
use Rattle.ps_delta.specs.State.{AreTouched, joined_state, state_at}
use Rattle.ps_delta.specs.Deltas.{state_of}
use Rattle.ps_delta.specs.State.{AreTouched, joined_state, state_at}
use Rattle.ps_delta.specs.Deltas.{state_of}
use Rattle.ps_delta.proofs.grid.Grid.touched.Given as goal

abbrev pub invariant-loop-change : goal.invariant-loop-change
invariant-loop-change l = AreTouched (state_at l.self)
    (joined_state (state_at l.self) (state_of (take l.change-index l.parts))) l.touched
