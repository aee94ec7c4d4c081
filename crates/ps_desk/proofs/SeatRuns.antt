-- A whole session goes on from what its pass had seen. A caller of `talk` with a `Seat` gets this fact by `talked` of
-- `Rattle.ps_session.proofs.Runs`, even if the session failed. With `h` and `r` as the opening history and the replica
-- of the desk's name:
--
--     let told = c.talk.ensures in
--     let more : GoesOn c.new-seat.result c.talk.new.board =
--     talked GoesOn goes_itself goes_trans (SeatAnswers r h) (goes_on r h) _ _ _ _ _ _ _ _
--     c.talk.result
--     told.transcribed told.sink told.source told.keep told.memory in
use Rattle.std.proofs.Common.{◌∙◌, inl, inr, refl, arith, ℕ, List}
use Rattle.ps_delta.specs.Deltas.{Entries}
use Rattle.ps_face.proofs.Beginnings.{begins_itself, begins_trans}
use Rattle.ps_desk.specs.Passes.{PassView}
use Rattle.ps_desk.specs.Seats.{GoesOn, SeatAnswers}

pub goes_itself : (pass : PassView) → GoesOn pass pass
goes_itself pass = record { later = begins_itself pass.list; appended = omega arith; seat = refl }

pub goes_trans : (old middle new : PassView) → GoesOn old middle → GoesOn middle new → GoesOn old new
goes_trans old middle new a b = record {
  later = begins_trans old.list middle.list new.list a.later b.later;
  appended = omega (arith, a.appended, b.appended);
  seat = b.seat ∙ a.seat;
}

pub goes_on : (r : ℕ) (h : List Entries) (old new : PassView) (line text : List ℕ)
    → SeatAnswers r h old line text new → GoesOn old new
goes_on r h old new line text (inl serves) = serves.goes_on
goes_on r h old new line text (inr lacks) = lacks.goes_on
