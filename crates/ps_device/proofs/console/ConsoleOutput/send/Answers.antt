use Rattle.ps_device.proofs.DeviceLemmas.{Keeps-handed, calm_put}
use Rattle.ps_device.specs.declared.device.Failed.{Failed}
use Rattle.ps_device.proofs.console.ConsoleOutput.send.Goals as goal

pub loop-self-preserved : goal.loop-self-preserved
loop-self-preserved g c = record {
  same = Keeps-handed _ _ _ c.loop-self.self.bytes.items c.loop-self.self.sent c.in_ok-count.count
      c.loop-self.invariant.same
      (rw c.deref.ensures.value at c.in_ok-count.ensures.bytes);
  calm = calm_put Failed _ _ _ c.in_ok-count.count _ c.if-count-eq0.false c.in_ok-count.ensures.counted
      c.loop-self.invariant.calm;
  stopped = c.loop-self.invariant.stopped;
}
