use Rattle.std.proofs.Common.{◌≡◌, [], false}
use Rattle.ps_peers.specs.Exchange.{IsFollowed}
use Rattle.ps_peers.proofs.follower.follow.Given as goal

abbrev pub invariant-pulls : goal.invariant-pulls
invariant-pulls g l = record {
  followed : IsFollowed (l.fn.until_now ≡ false) l.fn.after l.fn.from l.from (g.O.Sink.contents l.fn.out)
      (g.O.Sink.contents l.out) l.version;
  first : l.from.failures ≡ l.fn.from.failures;
  second : g.O.Sink.failures l.out ≡ g.O.Sink.failures l.fn.out;
  flushed : g.O.Sink.waiting l.fn.out ≡ [] → g.O.Sink.waiting l.out ≡ [];
}

abbrev pub decreases-pulls : goal.decreases-pulls
decreases-pulls g l = l.from.left
