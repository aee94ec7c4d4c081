use Rattle.std.proofs.Common.{◌≡◌, ◌-◌, length}
use Rattle.std.specs.Io.KnownBytes.{Keeps}
use Rattle.ps_session.specs.HeldOutputs.{held_contents}
use Rattle.ps_session.proofs.held_output.HeldOutput.send_on.Given as goal

-- what the sink below has and what it was not given yet are together as before, and nothing failed
abbrev pub invariant-loop-self : goal.invariant-loop-self
invariant-loop-self g l = record {
  same : Keeps (held_contents g.K.Sink.contents l.fn.self) (held_contents g.K.Sink.contents l.self);
  calm : l.self.room.failed ≡ l.fn.self.room.failed;
}

abbrev pub decreases-loop-self : goal.decreases-loop-self
decreases-loop-self g l = length l.self.room.bytes.items - l.self.sent
