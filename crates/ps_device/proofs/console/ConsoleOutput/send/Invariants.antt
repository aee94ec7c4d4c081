use Rattle.std.proofs.Common.{◌≡◌, ◌-◌, length, true}
use Rattle.std.specs.Io.KnownBytes.{Keeps}
use Rattle.ps_device.specs.Writers.{console_contents}
use Rattle.ps_device.proofs.console.ConsoleOutput.send.Given as goal

-- what the writer has and what waits are together as before, and nothing failed
abbrev pub invariant-loop-self : goal.invariant-loop-self
invariant-loop-self g l = record {
  same : Keeps (console_contents g.W.Write.contents l.fn.self) (console_contents g.W.Write.contents l.self);
  calm : l.self.sink.failed ≡ l.fn.self.sink.failed;
  stopped : l.self.is_stopped ≡ true;
}

abbrev pub decreases-loop-self : goal.decreases-loop-self
decreases-loop-self g l = length l.self.bytes.items - l.self.sent
