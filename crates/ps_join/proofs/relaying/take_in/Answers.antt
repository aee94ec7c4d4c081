use Rattle.std.proofs.Common.{◌≤◌, ◌-◌, ℕ, List, arith, refl}
use Rattle.ps_join.proofs.RelayLemmas.{at_anew, at_further, at_known, outside_anew, outside_known, taken_then}
use Rattle.ps_join.specs.Relays.{IsHalted, IsOnward, seen}
use Rattle.ps_join.specs.declared.bringing.Brought.TheVariants as broughts
use Rattle.ps_join.proofs.relaying.take_in.Goals as goal

pub returns-in-Ok-clause-at : goal.returns-in-Ok-clause-at
returns-in-Ok-clause-at g c = λ first a.
    let number = c.in-Ok-Anew.number in
    let taken = rw c.in-Ok-Anew.field-0-is at c.in-Ok-Anew.ensures.taken in
    at_anew c.args.position number first _ a taken.1 _
    (taken_then c.args.position first c.args.server.now c.bring.new.server (g.I.Intake.to_come c.args.intake.now)
    (g.I.Intake.to_come c.bring.new.intake) (g.O.Sink.contents c.args.out.now) a
    (g.I.Intake.held c.args.intake.now) (broughts.Anew number) c.in-Ok-Anew.ensures.replied taken
    c.in-Ok-Anew.ensures.settled (number - 1)
    (λ first to_come course.
    IsOnward (number - 1) course.numbers first
    (seen c.write_between.new.server to_come (g.O.Sink.contents c.write_between.new.out)))
    (outside_anew c.args.position number first _ a taken.1) c.in-Ok.ensures.written)

pub returns-in-Err-write_between-clause-halted : goal.returns-in-Err-write_between-clause-halted
returns-in-Err-write_between-clause-halted g c = λ first a.
    let number = c.in-Ok-Anew.number in
    let taken = rw c.in-Ok-Anew.field-0-is at c.in-Ok-Anew.ensures.taken in
    taken_then c.args.position first c.args.server.now c.bring.new.server (g.I.Intake.to_come c.args.intake.now)
    (g.I.Intake.to_come c.bring.new.intake) (g.O.Sink.contents c.args.out.now) a
    (g.I.Intake.held c.args.intake.now) (broughts.Anew number) c.in-Ok-Anew.ensures.replied taken
    c.in-Ok-Anew.ensures.settled (number - 1)
    (λ first to_come course. (held : List ℕ)
    → IsHalted c.in-Err-write_between.fault held first
    (seen c.write_between.new.server to_come (g.O.Sink.contents c.write_between.new.out)))
    (outside_anew c.args.position number first _ a taken.1) c.in-Err-write_between.ensures.halted
    (g.I.Intake.held c.bring.new.intake)

pub returns-in-Ok-write_between-clause-at : goal.returns-in-Ok-write_between-clause-at
returns-in-Ok-write_between-clause-at g c = λ first a.
    let number = c.in-Ok-Known.number in
    let taken = rw c.in-Ok-Known.field-0-is at c.in-Ok-Known.ensures.taken in
    let high : c.args.position ≤ number = omega (arith, c.if-position-number.true) in
    at_further c.args.position first c.args.server.now c.bring.new.server (g.I.Intake.to_come c.args.intake.now)
    (g.I.Intake.to_come c.bring.new.intake) (g.O.Sink.contents c.args.out.now) a
    (g.I.Intake.held c.args.intake.now) (broughts.Known number) c.in-Ok-Known.ensures.replied taken
    c.in-Ok-Known.ensures.settled number c.write_between-in-Ok-Known.new.server
    (g.O.Sink.contents c.write_between-in-Ok-Known.new.out) refl high
    (taken_then c.args.position first c.args.server.now c.bring.new.server (g.I.Intake.to_come c.args.intake.now)
    (g.I.Intake.to_come c.bring.new.intake) (g.O.Sink.contents c.args.out.now) a
    (g.I.Intake.held c.args.intake.now) (broughts.Known number) c.in-Ok-Known.ensures.replied taken
    c.in-Ok-Known.ensures.settled number
    (λ first to_come course.
    IsOnward number course.numbers first
    (seen c.write_between-in-Ok-Known.new.server to_come (g.O.Sink.contents c.write_between-in-Ok-Known.new.out)))
    (outside_known c.args.position first c.args.server.now c.bring.new.server
    (g.I.Intake.to_come c.args.intake.now) (g.I.Intake.to_come c.bring.new.intake)
    (g.O.Sink.contents c.args.out.now) a (g.I.Intake.held c.args.intake.now) (broughts.Known number)
    c.in-Ok-Known.ensures.replied taken c.in-Ok-Known.ensures.settled number refl)
    c.in-Ok-write_between.ensures.written)

pub returns-in-Err-write_between-2-clause-halted : goal.returns-in-Err-write_between-2-clause-halted
returns-in-Err-write_between-2-clause-halted g c = λ first a.
    let number = c.in-Ok-Known.number in
    let taken = rw c.in-Ok-Known.field-0-is at c.in-Ok-Known.ensures.taken in
    taken_then c.args.position first c.args.server.now c.bring.new.server (g.I.Intake.to_come c.args.intake.now)
    (g.I.Intake.to_come c.bring.new.intake) (g.O.Sink.contents c.args.out.now) a
    (g.I.Intake.held c.args.intake.now) (broughts.Known number) c.in-Ok-Known.ensures.replied taken
    c.in-Ok-Known.ensures.settled number
    (λ first to_come course. (held : List ℕ)
    → IsHalted c.in-Err-write_between-2.fault held first
    (seen c.write_between-in-Ok-Known.new.server to_come (g.O.Sink.contents c.write_between-in-Ok-Known.new.out)))
    (outside_known c.args.position first c.args.server.now c.bring.new.server
    (g.I.Intake.to_come c.args.intake.now) (g.I.Intake.to_come c.bring.new.intake)
    (g.O.Sink.contents c.args.out.now) a (g.I.Intake.held c.args.intake.now) (broughts.Known number)
    c.in-Ok-Known.ensures.replied taken c.in-Ok-Known.ensures.settled number refl)
    c.in-Err-write_between-2.ensures.halted (g.I.Intake.held c.bring.new.intake)

pub returns-in-Ok-Known-2-clause-at : goal.returns-in-Ok-Known-2-clause-at
returns-in-Ok-Known-2-clause-at g c = λ first a.
    at_known c.args.position first c.args.server.now c.bring.new.server (g.I.Intake.to_come c.args.intake.now)
    (g.I.Intake.to_come c.bring.new.intake) (g.O.Sink.contents c.args.out.now) a
    (g.I.Intake.held c.args.intake.now) (broughts.Known c.in-Ok-Known.number) c.in-Ok-Known.ensures.replied
    (rw c.in-Ok-Known.field-0-is at c.in-Ok-Known.ensures.taken) c.in-Ok-Known.ensures.settled refl

pub returns-in-Ok-Refused-clause-at : goal.returns-in-Ok-Refused-clause-at
returns-in-Ok-Refused-clause-at g c = λ first a.
    at_known c.args.position first c.args.server.now c.bring.new.server (g.I.Intake.to_come c.args.intake.now)
    (g.I.Intake.to_come c.bring.new.intake) (g.O.Sink.contents c.args.out.now) a
    (g.I.Intake.held c.args.intake.now) broughts.Refused c.in-Ok-Refused.ensures.replied
    (rw c.in-Ok-Refused.field-0-is at c.in-Ok-Refused.ensures.taken) c.in-Ok-Refused.ensures.settled refl
