use Rattle.std.proofs.Common.{◌≡◌, []}
use Rattle.ps_join.specs.Relays.{IsAt, seen}
use Rattle.ps_join.proofs.relaying.relay.Given as goal

abbrev pub invariant-rounds : goal.invariant-rounds
invariant-rounds g l = record {
  at : IsAt l.position (seen l.fn.server (g.I.Intake.to_come l.fn.intake) (g.O.Sink.contents l.fn.out))
      (seen l.server (g.I.Intake.to_come l.intake) (g.O.Sink.contents l.out));
  first : l.server.failures ≡ l.fn.server.failures;
  second : g.O.Sink.failures l.out ≡ g.O.Sink.failures l.fn.out;
  flushed : g.O.Sink.waiting l.fn.out ≡ [] → g.O.Sink.waiting l.out ≡ [];
}

abbrev pub decreases-rounds : goal.decreases-rounds
decreases-rounds g l = l.server.left
