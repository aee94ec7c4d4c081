use Rattle.std.proofs.Common.{◌≡◌}
use Rattle.ps_delta.specs.State.{state_at}
use Rattle.ps_step.specs.Steps.{HasGiven}
use Rattle.ps_step.proofs.pulling.pull_all.Given as goal

abbrev pub invariant-pulls : goal.invariant-pulls
invariant-pulls g l = record {
  given : HasGiven l.fn.peer l.peer l.version (state_at l.state);
  calm : l.peer.failures ≡ l.fn.peer.failures;
}

abbrev pub decreases-pulls : goal.decreases-pulls
decreases-pulls g l = l.peer.left
