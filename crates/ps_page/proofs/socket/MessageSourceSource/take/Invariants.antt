use Rattle.std.proofs.Common.{◌≡◌, ◌≤◌}
use Rattle.ps_page.proofs.socket.MessageSourceSource.take.Given as goal

-- messages that give nothing are no failures
abbrev pub invariant-loop-self : goal.invariant-loop-self
invariant-loop-self g l = record {
  calm : l.self.failed ≡ l.fn.self.failed;
  falls : l.self.tries ≤ l.fn.self.tries;
}

abbrev pub decreases-loop-self : goal.decreases-loop-self
decreases-loop-self g l = l.self.tries
