use Rattle.std.proofs.Common.{◌∙◌}
use Rattle.ps_session.proofs.Runs.{conversed}
use Rattle.ps_desk.proofs.SeatRuns.{goes_itself, goes_on, goes_trans}
use Rattle.ps_desk.specs.Seats.{GoesOn, SeatAnswers, SeatLines}
use Rattle.ps_server.proofs.Attending.{Ran, attended, ran_covered}
use Rattle.ps_server.proofs.connection.attend_kept.Goals as goal

pub returns-clause-covered : goal.returns-clause-covered
returns-clause-covered g c =
    let told = c.converse-ended.ensures.covered tt in (
      told.0,
      told.1,
      rw (c.leave.ensures.pass, c.leave-2.ensures) (rw (c.leave_to_keeper.ensures.same
          ∙ c.new-seat.ensures) at told.2),
    )

pub returns-clause-attended : goal.returns-clause-attended
returns-clause-attended g c =
    let told = c.converse-ended.ensures in
    let all = told.covered tt in
    let on : GoesOn c.leave_to_keeper.new.self c.converse-ended.new.board =
    conversed GoesOn goes_itself goes_trans (SeatAnswers _ _) (goes_on _ _)
    _ _ _ _ _ _ _ _ _ _ _ c.converse-ended.result told.transcribed told.sink told.source told.keep told.memory in
    let answered : Ran (SeatLines _ _) c.leave_to_keeper.new.self c.converse-ended.new.board =
    ran_covered (SeatLines _ _) _ _ _ _ _ _ _ _ all.2 in
    attended _ _ (c.leave_to_keeper.ensures.same ∙ c.new-seat.ensures) c.leave.ensures.pass on answered
