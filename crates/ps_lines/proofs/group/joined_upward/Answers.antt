use Rattle.std.proofs.Common.{ap, length, arith}
use Rattle.std.proofs.lemmas.List.{length_push}
use Rattle.ps_lines.proofs.JointLemmas.{joints_end, more_joints}
use Rattle.ps_lines.proofs.group.joined_upward.Goals as goal

pub returns-then-outgrows_line-clause-joints : goal.returns-then-outgrows_line-clause-joints
returns-then-outgrows_line-clause-joints c =
    joints_end c.args.deltas.now c.joints.joints.items c.in_ok-joint.joint _
    (ap length c.deref.ensures.value) c.joints.invariant.first c.in_ok-joint.ensures.joint c.args.most
    (omega (arith, c.joints.invariant.few, c.min-count.ensures))
    (omega (arith, c.joints.invariant.few, c.min-count.ensures))
    c.if-outgrows_line.ensures.outgrows

pub joints-preserved : goal.joints-preserved
joints-preserved c = record {
  few =
      let is = ap length c.in_ok-push.ensures.items in
      omega (arith, is, length_push c.joints.joints.items c.in_ok-joint.joint, c.joints-test.true, c.len.ensures);
  first =
      more_joints c.args.deltas.now c.joints.joints.items c.in_ok-joint.joint _
      (ap length c.deref.ensures.value) c.joints.invariant.first c.in_ok-joint.ensures.joint _
      c.in_ok-push.ensures.items;
}
