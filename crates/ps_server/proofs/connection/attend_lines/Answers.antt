use Rattle.std.proofs.Common.{◌∙◌, inl, inr}
use Rattle.ps_session.proofs.Runs.{conversed}
use Rattle.ps_desk.proofs.SeatRuns.{goes_itself, goes_on, goes_trans}
use Rattle.ps_desk.specs.Seats.{GoesOn, SeatAnswers, SeatLines}
use Rattle.ps_server.proofs.Attending.{Ran, attended, ran_covered}
use Rattle.ps_server.proofs.connection.attend_lines.Goals as goal

pub returns-clause-transcribed : goal.returns-clause-transcribed
returns-clause-transcribed g c =
    let same = c.leave_to_keeper-shown.ensures.same ∙ c.new-seat.ensures in
    rw c.leave-pass.ensures.pass (rw same at c.converse-ended.ensures.transcribed)

pub returns-clause-sink : goal.returns-clause-sink
returns-clause-sink g c = λ is.
    let told = c.converse-ended.ensures.sink is in
    rw c.leave-pass.ensures.pass (
      told.0,
      told.1,
      elim (told.2) [
        | inl whole ↦ inl (rw (c.leave_to_keeper-shown.ensures.same ∙ c.new-seat.ensures) at whole)
        | inr part ↦ inr (rw (c.leave_to_keeper-shown.ensures.same ∙ c.new-seat.ensures) at part.1)
      ],
    )

pub returns-clause-source : goal.returns-clause-source
returns-clause-source g c = λ is.
    let told = c.converse-ended.ensures.source is in
    let same = c.leave_to_keeper-shown.ensures.same ∙ c.new-seat.ensures in
    rw c.leave-pass.ensures.pass (told.0, told.1, rw same at told.2)

pub returns-clause-covered : goal.returns-clause-covered
returns-clause-covered g c =
    let told = c.converse-ended.ensures.covered tt in (
      told.0,
      told.1,
      rw c.leave-pass.ensures.pass (rw (c.leave_to_keeper-shown.ensures.same ∙ c.new-seat.ensures) at told.2),
    )

pub returns-clause-attended : goal.returns-clause-attended
returns-clause-attended g c =
    let told = c.converse-ended.ensures in
    let all = told.covered tt in
    let on : GoesOn c.leave_to_keeper-shown.new.self c.converse-ended.new.board =
    conversed GoesOn goes_itself goes_trans (SeatAnswers _ _) (goes_on _ _)
    _ _ _ _ _ _ _ _ _ _ _ c.converse-ended.result told.transcribed told.sink told.source told.keep told.memory in
    let answered : Ran (SeatLines _ _) c.leave_to_keeper-shown.new.self c.converse-ended.new.board =
    ran_covered (SeatLines _ _) _ _ _ _ _ _ _ _ all.2 in
    attended _ _ (c.leave_to_keeper-shown.ensures.same ∙ c.new-seat.ensures) c.leave-pass.ensures.pass on answered
