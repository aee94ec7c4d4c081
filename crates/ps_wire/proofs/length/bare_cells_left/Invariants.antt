use Rattle.std.proofs.Common.{◌≡◌, ◌+◌, take}
use Rattle.std.specs.Prelude.{sum_by}
use Rattle.ps_wire.specs.Length.{bare_value}
use Rattle.ps_wire.proofs.SizeLemmas.{ended}
use Rattle.ps_wire.proofs.length.bare_cells_left.Given as goal

-- `left` is the room less what the first bracket and the cells so far take
abbrev pub invariant-loop-cell : goal.invariant-loop-cell
invariant-loop-cell l = l.left + 1 + sum_by (ended bare_value) (take l.cell-index l.cells) ≡ l.room
