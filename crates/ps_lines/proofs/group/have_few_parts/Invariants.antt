use Rattle.std.proofs.Common.{◌≡◌, ◌+◌, take}
use Rattle.std.specs.Prelude.{sum_by}
use Rattle.ps_lines.specs.Inside.Joints.{parts_in}
use Rattle.ps_lines.proofs.group.have_few_parts.Given as goal

abbrev pub invariant-loop-delta : goal.invariant-loop-delta
invariant-loop-delta l = l.left + sum_by parts_in (take l.delta-index l.deltas) ≡ l.most
