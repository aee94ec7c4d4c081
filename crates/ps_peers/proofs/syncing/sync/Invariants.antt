use Rattle.std.proofs.Common.{◌≡◌}
use Rattle.ps_peers.specs.Exchange.{IsFollowed}
use Rattle.ps_peers.proofs.syncing.sync.Given as goal

abbrev pub invariant-pulls : goal.invariant-pulls
invariant-pulls g l = record {
  followed : IsFollowed ⊥ 0 l.fn.from l.from l.fn.to.asked l.to.asked l.version;
  first : l.from.failures ≡ l.fn.from.failures;
  second : l.to.failures ≡ l.fn.to.failures;
}

abbrev pub decreases-pulls : goal.decreases-pulls
decreases-pulls g l = l.from.left
