use Rattle.std.proofs.Common.{◌∙◌, Err, ap, refl, sym, arith}
use Rattle.ps_lines.proofs.GreatestGroup.{greatest_found, greatest_whole, none_above_all, none_above_next}
use Rattle.ps_lines.proofs.GreatestGroup.{none_found, none_of_one, one_item}
use Rattle.ps_lines.proofs.JointLemmas.{joint_at}
use Rattle.ps_lines.proofs.ReadLemmas.{same_fault}
use Rattle.ps_lines.proofs.group.greatest_group.Goals as goal
use Rattle.ps_lines.proofs.group.greatest_group.Goals.{in-Ok, in-Err}

pub counts-init : goal.counts-init
counts-init c =
    let joints = c.in_ok-joints.joints.items in (
      omega (arith, c.len-count.ensures),
      none_above_all c.args.deltas.now c.args.most _ c.in_ok-reach.reach c.in_ok-reach.ensures.more
          (λ k line above. c.in_ok-joints.ensures.joints.last k line
          (omega (arith, above, c.len-count.ensures))),
    )

pub returns-in-Ok-joint_line-clause-found : goal.returns-in-Ok-joint_line-clause-found
returns-in-Ok-joint_line-clause-found c =
    let deltas = c.args.deltas.now in
    let joints = c.in_ok-joints.joints.items in
    let upward = c.in_ok-joints.ensures.joints in
    let joint = joint_at deltas joints c.counts.count c.index.result.now (omega (arith, c.counts-test.true))
    c.counts.invariant.0 upward.first c.index.ensures in
    greatest_found c.args.deltas.now c.args.most c.counts.count c.index.result.now
    c.in-Ok-joint_line.line.items (omega (arith, c.counts-test.true))
    (omega (arith, c.counts.invariant.0, upward.few, c.in_ok-reach.ensures.most))
    (omega (arith, c.counts.invariant.0, upward.within)) joint
    c.in-Ok-joint_line.ensures.line c.in-Ok-joint_line.ensures.fits
    c.counts.invariant.1

pub counts-preserved : goal.counts-preserved
counts-preserved c =
    let deltas = c.args.deltas.now in
    let joints = c.in_ok-joints.joints.items in
    let upward = c.in_ok-joints.ensures.joints in
    let joint = joint_at deltas joints c.counts.count c.index.result.now (omega (arith, c.counts-test.true))
    c.counts.invariant.0 upward.first c.index.ensures in
    let long = c.joint_line.ensures.too_long (c.in-Err-TooLong.is ∙ ap Err c.in-Err-TooLong.field-0-is) in (
      omega (arith, c.counts.invariant.0),
      none_above_next c.args.deltas.now c.args.most c.counts.count c.index.result.now joint
          long c.counts.invariant.1,
    )

pub returns-clause-none : goal.returns-clause-none
returns-clause-none c = λ _.
    none_found c.args.deltas.now c.args.most c.counts.count c.counts-test.false c.counts.invariant.1

pub returns-then-deltas-eq1-clause-none : goal.returns-then-deltas-eq1-clause-none
returns-then-deltas-eq1-clause-none c = λ is.
    let one = one_item c.args.deltas.now c.index-deltas-0.result c.if-deltas-eq1.true c.index-deltas-0.is in
    none_of_one c.args.deltas.now c.index-deltas-0.result c.args.most one
    (c.line_alone.ensures.none (elim c.match-line_alone.branch [
      | in-Ok w ↦ absurd (let no = sym w.result-is ∙ is in cc)
      | in-Err w ↦ w.in-Err.is ∙ same_fault c.match-line_alone.result _ _ _ w.result-is refl is
    ]))

pub returns-in-Some-clause-found : goal.returns-in-Some-clause-found
returns-in-Some-clause-found c =
    greatest_whole c.args.deltas.now c.args.most c.in_ok-reach.reach c.in-Some.line.items
    (omega arith) c.in_ok-reach.ensures.most (rw c.in-Some.is at c.in_ok-line.ensures.line)
    c.in_ok-reach.ensures.more
