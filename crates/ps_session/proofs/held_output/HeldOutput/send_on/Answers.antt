use Rattle.ps_device.proofs.DeviceLemmas.{Keeps-handed}
use Rattle.ps_session.proofs.held_output.HeldOutput.send_on.Goals as goal

pub loop-self-preserved : goal.loop-self-preserved
loop-self-preserved g c = record {
  same = Keeps-handed _ _ _ c.loop-self.self.room.bytes.items c.loop-self.self.sent c.in_ok-count.count
      c.loop-self.invariant.same
      (rw c.deref.ensures.value at c.in_ok-count.ensures.bytes);
  calm = c.loop-self.invariant.calm;
}
