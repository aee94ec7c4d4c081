use Rattle.std.proofs.Common.{◌≡◌, take}
use Rattle.ps_delta.proofs.block.BlockTwin.twin.Given as goal

abbrev pub invariant-loop-state : goal.invariant-loop-state
invariant-loop-state l = l.cells.items ≡ take l.state-index l.self
