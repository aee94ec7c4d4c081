use Rattle.std.proofs.Common.{◌≤◌, ◌∙◌, arith, refl, subst, sym}
use Rattle.ps_join.proofs.RelayLemmas.{at_end, at_group, at_start, at_unwaited, at_wait, flushed_calm}
use Rattle.ps_join.specs.Relays.{IsAt, IsHalted, RelayView, seen}
use Rattle.ps_join.specs.declared.fault.RelayFault.TheVariants as faults
use Rattle.ps_lines.specs.Feeding.{without_return}
use Rattle.ps_peers.specs.Exchange.{TellsEnd}
use Rattle.ps_join.proofs.relaying.relay.Goals as goal

pub rounds-init : goal.rounds-init
rounds-init g c = record { at = at_start _; first = refl; second = refl; flushed = λ waits. waits }

pub rounds-preserved-in-Ok-Some : goal.rounds-preserved-in-Ok-Some
rounds-preserved-in-Ok-Some g c =
    let i = c.rounds.invariant in
    let h = rw c.in-Ok-Some.field-0-is at c.in-Ok-Some.ensures.written in
    let begun : RelayView = seen c.args.server.now (g.I.Intake.to_come c.args.intake.now)
    (g.O.Sink.contents c.args.out.now) in
    let a = subst (λ left. IsAt c.rounds.position begun (seen c.rounds.server left (g.O.Sink.contents c.rounds.out)))
    (sym c.next-came.ensures.same) i.at in
    let high : c.rounds.position ≤ c.in-Ok-Some.last = omega (arith, h.1.1.1) in
    record {
      at = at_group c.rounds.position begun c.rounds.server c.write_group.new.server
          (g.I.Intake.to_come c.next-came.new.self) (g.O.Sink.contents c.rounds.out)
          (g.O.Sink.contents c.write_group.new.out) a _ c.in-Ok-Some.last h high;
      first = c.in-Ok-Some.ensures.calm.0 ∙ i.first;
      second = c.in-Ok-Some.ensures.calm.1 ∙ i.second;
      flushed = λ waits.
          flushed_calm (g.O.Sink.failures c.rounds.out) (g.O.Sink.failures c.write_group.new.out) _
          (c.in-Ok-Some.ensures.flushed (i.flushed waits)) c.in-Ok-Some.ensures.calm.1;
    }

pub returns-in-Ended-clause-relayed : goal.returns-in-Ended-clause-relayed
returns-in-Ended-clause-relayed g c =
    let i = c.rounds.invariant in
    let h = rw c.in-Ok-None.field-0-is at c.in-Ok-None.ensures.written in
    let begun : RelayView = seen c.args.server.now (g.I.Intake.to_come c.args.intake.now)
    (g.O.Sink.contents c.args.out.now) in
    let a = subst (λ left. IsAt c.rounds.position begun (seen c.rounds.server left (g.O.Sink.contents c.rounds.out)))
    (sym c.next-came.ensures.same) i.at in
    let e = at_end c.rounds.position begun c.rounds.server c.write_group.new.server
    (g.I.Intake.to_come c.next-came.new.self) (g.O.Sink.contents c.rounds.out)
    (g.O.Sink.contents c.write_group.new.out) a _ h in
    record {
      course = e.course;
      relayed = e.relayed;
      through = subst (TellsEnd (without_return c.write_group.new.server.line)) (sym e.here) h.1;
      ended = c.next-came.ensures.ended c.in-Ended.is;
    }

pub rounds-preserved : goal.rounds-preserved
rounds-preserved g c =
    let i = c.rounds.invariant in
    let h = rw c.in-Ok-None.field-0-is at c.in-Ok-None.ensures.written in
    let begun : RelayView = seen c.args.server.now (g.I.Intake.to_come c.args.intake.now)
    (g.O.Sink.contents c.args.out.now) in
    let a = subst (λ left. IsAt c.rounds.position begun (seen c.rounds.server left (g.O.Sink.contents c.rounds.out)))
    (sym c.next-came.ensures.same) i.at in
    let e = at_end c.rounds.position begun c.rounds.server c.write_group.new.server
    (g.I.Intake.to_come c.next-came.new.self) (g.O.Sink.contents c.rounds.out)
    (g.O.Sink.contents c.write_group.new.out) a _ h in
    record {
      at = subst (λ left. IsAt c.rounds.position begun
          (seen c.await_more.new.server left (g.O.Sink.contents c.write_group.new.out)))
          (sym c.await_more.ensures.same)
          (at_wait c.rounds.position begun c.write_group.new.server c.await_more.new.server
          (g.I.Intake.to_come c.next-came.new.self) (g.O.Sink.contents c.write_group.new.out)
          (g.O.Sink.contents c.write_group.new.out) e c.in-Ok-await_more.ensures.waited);
      first = c.in-Ok-await_more.ensures.waited.2.0.calm ∙ c.in-Ok-None.ensures.calm.0 ∙ i.first;
      second = c.in-Ok-None.ensures.calm.1 ∙ i.second;
      flushed = λ waits.
          flushed_calm (g.O.Sink.failures c.rounds.out) (g.O.Sink.failures c.write_group.new.out) _
          (c.in-Ok-None.ensures.flushed (i.flushed waits)) c.in-Ok-None.ensures.calm.1;
    }

pub returns-in-Err-await_more-clause-halted : goal.returns-in-Err-await_more-clause-halted
returns-in-Err-await_more-clause-halted g c =
    let i = c.rounds.invariant in
    let h = rw c.in-Ok-None.field-0-is at c.in-Ok-None.ensures.written in
    let begun : RelayView = seen c.args.server.now (g.I.Intake.to_come c.args.intake.now)
    (g.O.Sink.contents c.args.out.now) in
    let a = subst (λ left. IsAt c.rounds.position begun (seen c.rounds.server left (g.O.Sink.contents c.rounds.out)))
    (sym c.next-came.ensures.same) i.at in
    let e = at_end c.rounds.position begun c.rounds.server c.write_group.new.server
    (g.I.Intake.to_come c.next-came.new.self) (g.O.Sink.contents c.rounds.out)
    (g.O.Sink.contents c.write_group.new.out) a _ h in
    subst (λ left. IsHalted (faults.Server c.in-Err-await_more.fault) (g.I.Intake.held c.await_more.new.intake) begun
    (seen c.await_more.new.server left (g.O.Sink.contents c.write_group.new.out)))
    (sym c.await_more.ensures.same)
    (at_unwaited c.rounds.position begun c.write_group.new.server c.await_more.new.server
    (g.I.Intake.to_come c.next-came.new.self) (g.O.Sink.contents c.write_group.new.out)
    (g.O.Sink.contents c.write_group.new.out) e c.in-Err-await_more.fault (g.I.Intake.held c.await_more.new.intake)
    c.in-Err-await_more.ensures.broken)
