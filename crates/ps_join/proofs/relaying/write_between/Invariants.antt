use Rattle.std.proofs.Common.{◌≡◌, ◌≤◌, []}
use Rattle.ps_join.specs.Relays.{IsOnward, Onward, seen}
use Rattle.ps_join.proofs.relaying.write_between.Given as goal

abbrev pub invariant-pulls : goal.invariant-pulls
invariant-pulls g l = record {
  onward : Onward l.fn.start l.fn.limit l.fn.server (g.O.Sink.contents l.fn.out) (λ first to_come course.
      IsOnward l.position course.numbers first (seen l.server to_come (g.O.Sink.contents l.out)));
  low : l.fn.start ≤ l.position;
  high : l.position ≤ l.fn.limit;
  first : l.server.failures ≡ l.fn.server.failures;
  second : g.O.Sink.failures l.out ≡ g.O.Sink.failures l.fn.out;
  flushed : g.O.Sink.waiting l.fn.out ≡ [] → g.O.Sink.waiting l.out ≡ [];
  falls : l.server.left ≤ l.fn.server.left;
}

abbrev pub decreases-pulls : goal.decreases-pulls
decreases-pulls g l = l.server.left
