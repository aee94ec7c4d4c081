use Rattle.std.proofs.Common.{◌+◌, ◌*◌}
use Rattle.ps_delta.specs.State.{state_at}
use Rattle.ps_delta.specs.declared.block.TheConstants.{BLOCK}
use Rattle.ps_delta.specs.Inside.Firsts.{AreFirst}
use Rattle.ps_delta.proofs.entries.add_block.Given as goal

abbrev pub invariant-loop-place : goal.invariant-loop-place
invariant-loop-place l = AreFirst (state_at l.grid) (l.index * BLOCK + l.place) l.entries.items
