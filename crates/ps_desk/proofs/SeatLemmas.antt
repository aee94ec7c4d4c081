-- What a session at a desk does with a line is the line's answer (`SeatAnswers`).
use Rattle.std.proofs.Common.{◌⊎◌, ◌∙◌, inl, inr, refl, ap, sym, subst, arith, max, length, ℕ, ◌<◌, List, Ok, Err}
use Rattle.std.specs.Prelude.{unwrap_or}
use Rattle.ps_grid.specs.declared.refusal.Refusal.{Refusal}
use Rattle.ps_delta.specs.Deltas.{Entries}
use Rattle.ps_face.specs.Legal.{history_of}
use Rattle.ps_session.specs.Answers.{TakesMemory}
use Rattle.ps_session.specs.Boards.{BoardAnswers, Obeyed}
use Rattle.ps_lines.specs.PullReplies.{RepliesWith}
use Rattle.ps_lines.specs.Commands.{Read, ReadsLine}
use Rattle.ps_lines.specs.Replies.{refusal_text, replica_text}
use Rattle.ps_lines.specs.declared.command.Command.{Command}
use Rattle.ps_lines.specs.declared.command.Command.TheVariants.{Edit, Entries as AllEntries, Entry, Get, Merge}
use Rattle.ps_lines.specs.declared.command.Command.TheVariants.{Pull, Push, Replica, Rows, Wait}
use Rattle.ps_session.proofs.AnswerLemmas.{memory_or_other}
use Rattle.ps_lines.proofs.PulledDeltas.{pull_reply}
use Rattle.ps_desk.specs.Passes.{PassView}
use Rattle.ps_desk.specs.Seats.{GoesOn, IsLacking, IsReturned, SeatAnswers, SeatCalls, SeatObeys, SeatPulls}
use Rattle.ps_desk.proofs.SeatRuns.{goes_itself, goes_on}

module _ (r : ℕ) (h : List Entries) where
  -- a line that was read as a command, which was carried out or was out of memory
  pub answer_of_command : (old new : PassView) (line text : List ℕ) (command : Command) → ReadsLine line (Ok command)
      → SeatObeys r h (Ok command) old text new
      ⊎ IsLacking (TakesMemory r (history_of h new.list) (Ok command)) old text new → GoesOn old new
      → SeatAnswers r h old line text new
  answer_of_command old new line text command reads (inl obeys) goes_on = inl (record {
    asked = Ok command;
    reads = reads;
    ample = λ is. cc;
    obeys = obeys;
    goes_on = goes_on;
  })
  answer_of_command old new line text command reads (inr lacks) goes_on = inr (record {
    asked = Ok command;
    reads = reads;
    lacks = lacks;
    goes_on = goes_on;
  })

  -- a line that was read as a refusal
  pub answer_of_refusal : (pass : PassView) (line : List ℕ) (refusal : Refusal) → ReadsLine line (Err refusal)
      → SeatAnswers r h pass line (refusal_text refusal) pass
  answer_of_refusal pass line refusal reads = elim (memory_or_other refusal) [
    | inl is ↦ inr (record {
      asked = Err refusal;
      reads = reads;
      lacks = record { some = is; replied = ap refusal_text is; counted = refl };
      goes_on = goes_itself pass;
    })
    | inr other ↦ inl (record {
      asked = Err refusal;
      reads = reads;
      ample = λ is. other cc;
      obeys = (refl, refl);
      goes_on = goes_itself pass;
    })
  ]

  -- what the line asks for is done, or memory ran out
  abbrev Does : Read Command → PassView → List ℕ → PassView → Type 0
  Does asked old text new =
      SeatObeys r h asked old text new ⊎ IsLacking (TakesMemory r (history_of h new.list) asked) old text new

  -- the reply to a pull follows from the deltas, at least one, or the refusal that the call returned
  pulled : (old new : PassView) (from most : ℕ) (text : List ℕ) (answer : Read (List Entries))
      → SeatPulls h old from (max most 1) answer new → RepliesWith from most answer text
      → IsReturned h from most old text new
      ⊎ IsLacking (from < length (history_of h new.list)) old text new
  pulled old new from most text (Ok deltas) call replied =
      let p = call.0 in
      elim (pull_reply (history_of h new.list) from most (max most 1) deltas text p.part p.there (omega arith)
      (omega arith) replied) [
        | inl out ↦ inl (record { legal = p.legal; replied = out; counted = p.counted; entered = p.entered })
        | inr lacks ↦ inr (record { some = lacks.0; replied = lacks.1; counted = p.counted })
      ]
  pulled old new from most text (Err refusal) call replied =
      let p = call.0 in
      elim p.cause [
        | inl beyond ↦ inl (record {
          legal = p.legal;
          replied = record {
            beyond = λ _. replied ∙ ap refusal_text beyond.0;
            at_end = λ at. absurd (omega (arith, at, beyond.1));
            before_end = λ lt. absurd (omega (arith, lt, beyond.1));
          };
          counted = p.counted;
          entered = p.entered;
        })
        | inr lacks ↦ inr (record { some = lacks.1; replied = replied ∙ ap refusal_text lacks.0; counted = p.counted })
      ]

  went : (old new : PassView) (from most : ℕ) (answer : Read (List Entries)) → SeatPulls h old from most answer new
      → GoesOn old new
  went old new from most (Ok deltas) call = call.1
  went old new from most (Err refusal) call = call.1

  -- the calls of a `Seat` make its answer to a line
  answer_of : (old new : PassView) (line text : List ℕ) (asked : Read Command) → ReadsLine line asked
      → Obeyed (SeatCalls r h) old asked text new → SeatAnswers r h old line text new
  answer_of old new line text (Ok (Edit edit)) reads did =
      answer_of_command old new line text (Edit edit) reads
      (subst (λ (t : List ℕ). Does (Ok (Edit edit)) old t new) (sym did.2) did.1.0) did.1.1
  answer_of old new line text (Ok (Get cell)) reads did =
      answer_of_command old new line text (Get cell) reads
      (subst (λ (t : List ℕ). Does (Ok (Get cell)) old t new) (sym did.2) (inl did.1.0)) did.1.1
  answer_of old new line text (Ok (Rows first last)) reads did =
      answer_of_command old new line text (Rows first last) reads
      (subst (λ (t : List ℕ). Does (Ok (Rows first last)) old t new) (sym did.2) did.1.0) did.1.1
  answer_of old new line text (Ok (Entry cell)) reads did =
      answer_of_command old new line text (Entry cell) reads
      (subst (λ (t : List ℕ). Does (Ok (Entry cell)) old t new) (sym did.2) did.1.0) did.1.1
  answer_of old new line text (Ok (AllEntries first last)) reads did =
      answer_of_command old new line text (AllEntries first last) reads
      (subst (λ (t : List ℕ). Does (Ok (AllEntries first last)) old t new) (sym did.2) did.1.0) did.1.1
  answer_of old new line text (Ok (Pull from most)) reads did =
      answer_of_command old new line text (Pull from most) reads
      (pulled old new from (unwrap_or most 1) text did.0 did.1 did.2)
      (went old new from (max (unwrap_or most 1) 1) did.0 did.1)
  answer_of old new line text (Ok (Push delta)) reads did =
      answer_of_command old new line text (Push delta) reads
      (subst (λ (t : List ℕ). Does (Ok (Push delta)) old t new) (sym did.2) did.1.0) did.1.1
  answer_of old new line text (Ok (Merge delta)) reads did =
      answer_of_command old new line text (Merge delta) reads
      (subst (λ (t : List ℕ). Does (Ok (Merge delta)) old t new) (sym did.2) did.1.0) did.1.1
  answer_of old new line text (Ok (Replica named)) reads did =
      answer_of_command old new line text (Replica named) reads
      (inl (did.1.1, did.2 ∙ ap replica_text did.1.0)) (subst (GoesOn old) (sym did.1.1) (goes_itself old))
  answer_of old new line text (Ok (Wait seen)) reads did =
      answer_of_command old new line text (Wait seen) reads (inl (did.0, did.1.0, did.2)) did.1.1
  answer_of old new line text (Err refusal) reads did =
      subst (λ (p : PassView). SeatAnswers r h old line text p) (sym did.0)
      (subst (λ (t : List ℕ). SeatAnswers r h old line t old) (sym did.1) (answer_of_refusal old line refusal reads))

  pub seat_answers : (old new : PassView) (line text : List ℕ) → BoardAnswers (SeatCalls r h) old line text new
      → SeatAnswers r h old line text new
  seat_answers old new line text answers = answer_of old new line text answers.asked answers.reads answers.obeyed
