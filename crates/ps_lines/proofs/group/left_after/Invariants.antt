use Rattle.std.proofs.Common.{◌≡◌, ◌+◌, take}
use Rattle.std.specs.Prelude.{sum_by}
use Rattle.ps_lines.specs.Inside.Joints.{part_count}
use Rattle.ps_lines.proofs.group.left_after.Given as goal

abbrev pub invariant-loop-cell : goal.invariant-loop-cell
invariant-loop-cell l = l.left + sum_by part_count (take l.cell-index l.cells) ≡ l.most
