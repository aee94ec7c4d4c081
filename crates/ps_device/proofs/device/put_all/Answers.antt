use Rattle.std.proofs.Common.{arith}
use Rattle.ps_device.proofs.DeviceLemmas.{Appends-further, HoldsBack-after, calm_put}
use Rattle.ps_device.specs.declared.device.Failed.{Failed}
use Rattle.ps_device.proofs.device.put_all.Goals as goal

pub loop-start-preserved : goal.loop-start-preserved
loop-start-preserved g c = record {
  within = omega (arith, c.in_ok-count.ensures.within);
  sent = Appends-further _ _ _ c.args.bytes.now c.loop-start.start c.in_ok-count.count
      c.loop-start.invariant.sent c.in_ok-count.ensures.bytes;
  calm = calm_put Failed _ _ _ c.in_ok-count.count _ c.if-count-eq0.false c.in_ok-count.ensures.counted
      c.loop-start.invariant.calm;
  held = λ holds. HoldsBack-after _ _ _ _ _ _ (c.loop-start.invariant.held holds) (c.in_ok-count.ensures.held holds);
}

pub returns-in_err-count-clause-held : goal.returns-in_err-count-clause-held
returns-in_err-count-clause-held g c = λ holds.
    HoldsBack-after _ _ _ _ _ _ (c.loop-start.invariant.held holds) (c.in_err-count.ensures.held holds)

pub returns-then-count-eq0-clause-held : goal.returns-then-count-eq0-clause-held
returns-then-count-eq0-clause-held g c = λ holds.
    HoldsBack-after _ _ _ _ _ _ (c.loop-start.invariant.held holds) (c.in_ok-count.ensures.held holds)
