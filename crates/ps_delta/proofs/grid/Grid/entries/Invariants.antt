use Rattle.std.proofs.Common.{◌*◌}
use Rattle.ps_delta.specs.State.{state_at}
use Rattle.ps_delta.specs.declared.block.TheConstants.{BLOCK}
use Rattle.ps_delta.specs.Inside.Firsts.{AreFirst}
use Rattle.ps_delta.proofs.grid.Grid.entries.Given as goal

abbrev pub invariant-loop-index : goal.invariant-loop-index
invariant-loop-index l = AreFirst (state_at l.self) (l.index * BLOCK) l.entries.items
