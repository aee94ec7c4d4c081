use Rattle.std.proofs.Common.{subst, arith}
use Rattle.std.proofs.lemmas.Result.{IfOk-weaker}
use Rattle.ps_delta.specs.Deltas.{IsDelta}
use Rattle.ps_lines.proofs.JointLemmas.{both_ok, first_joint, later_joint}
use Rattle.ps_lines.proofs.group.next_joint.Goals as goal

pub returns-then-count-eq0-clause-joint : goal.returns-then-count-eq0-clause-joint
returns-then-count-eq0-clause-joint c =
    IfOk-weaker c.twin.result _ _
    (λ joint is. first_joint c.args.deltas.now _ c.index-deltas-count.result joint c.requires.within
    (omega (arith, c.if-count-eq0.true)) c.index-deltas-count.is is
    (subst IsDelta c.parts.ensures.value c.parts.ensures.delta))
    c.twin.ensures.equal

pub returns-clause-joint : goal.returns-clause-joint
returns-clause-joint c =
    both_ok c.joined_pair.result
    (λ joint so lawful. later_joint c.args.deltas.now c.args.joints.now c.index-deltas-count.result
    c.index-joints-count.result joint c.requires.within (omega (arith, c.if-count-eq0.false)) c.index-deltas-count.is
    c.index-joints-count.is c.requires.joints so lawful)
    c.joined_pair.ensures.joined c.joined_pair.ensures.delta
