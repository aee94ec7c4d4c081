use Rattle.std.proofs.Common.{◌≤◌, length}
use Rattle.ps_lines.proofs.GreatestGroup.{NoneAbove}
use Rattle.ps_lines.proofs.group.greatest_group.Given as goal

abbrev pub invariant-counts : goal.invariant-counts
invariant-counts l = (l.count ≤ length l.joints.items) × NoneAbove l.deltas l.most l.count

abbrev pub decreases-counts : goal.decreases-counts
decreases-counts l = l.count
