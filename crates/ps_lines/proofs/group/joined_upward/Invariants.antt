use Rattle.std.proofs.Common.{◌-◌, ◌≤◌, length}
use Rattle.ps_lines.specs.Inside.Joints.{AreFirstJoints}
use Rattle.ps_lines.proofs.group.joined_upward.Given as goal

abbrev pub invariant-joints : goal.invariant-joints
invariant-joints l = record {
  few : length l.joints.items ≤ l.count;
  first : AreFirstJoints l.deltas l.joints.items;
}

abbrev pub decreases-joints : goal.decreases-joints
decreases-joints l = l.count - length l.joints.items
