-- What the lines of a session do to a board, for any relation that is reflexive and transitive. If each answered line
-- keeps the relation, it holds between the board before the session and the board after it, whatever the outcome. A
-- caller of `talk` or `converse` gives `talked` or `conversed` the five clauses of what it returned.
use Rattle.std.proofs.Common.{◌≡◌, ◌≢◌, ◌⊎◌, inl, inr, refl, ℕ, Bool, true, false, List, [], ◌∷◌, Option, length}
use Rattle.std.proofs.Common.{nat_le}
use Rattle.std.proofs.Common.{Result, Ok, Err}
use Rattle.std.specs.Prelude.{IfOk, MatchBool}
use Rattle.ps_lines.specs.declared.line_buffer.TheConstants.{LINE_LIMIT}
use Rattle.ps_session.specs.declared.transcript.RunFault.{RunFault}
use Rattle.ps_session.specs.declared.transcript.RunFault.TheVariants as faults
use Rattle.ps_lines.specs.Feeding.{without_return}
use Rattle.ps_session.specs.Keeping.{Halted}
use Rattle.ps_session.specs.Transcript.{Answered, Cut, Stopped, Transcribed}
use Rattle.ps_lines.specs.Streams.{Answering, Lines, Replies, Run}

module _ {State : Type 0} (Q : State → State → Type 0) (same : (x : State) → Q x x)
    (chain : (x y z : State) → Q x y → Q y z → Q x z)
    (Answers : Answering State)
    (step : (x y : State) (line text : List ℕ) → Answers x line text y → Q x y) where
  unchanged : (old new : State) → new ≡ old → Q old new
  unchanged old new is = rw is (same old)

  replied : (old new : State) (line text : List ℕ) → Replies Answers old line text new → Q old new
  replied old new [] text replies = unchanged old new replies.1
  replied old new (b ∷ bs) text replies = step old new (b ∷ bs) text replies

  handled : (old new : State) (line text refused : List ℕ) (fits : Bool)
      → MatchBool fits (Replies Answers old line text new) ((text ≡ refused) × (new ≡ old)) → Q old new
  handled old new line text refused true handles = replied old new line text handles
  handled old new line text refused false handles = unchanged old new handles.1

  one_line : (old new : State) (line text : List ℕ) → Lines Answers old line text new → Q old new
  one_line old new line text handles =
      handled old new (without_return line) text _ (nat_le (length line) LINE_LIMIT) handles

  pub all_lines : (old new : State) (lines : List (List ℕ)) (text : List ℕ) → Run (Lines Answers) old lines text new
      → Q old new
  all_lines old new [] text run = unchanged old new run.1
  all_lines old new (line ∷ lines) text run =
      chain old run.1 new (one_line old run.1 line run.0 run.3) (all_lines run.1 new lines run.2 run.5)

  module _ (first last : State) (written contents : Option (List ℕ)) where
    transcribed : (read : List ℕ) (answered : ℕ)
        → Transcribed (Lines Answers) first written read last contents answered → Q first last
    transcribed read answered t = all_lines first last _ _ t.run

    all_answered : (read : List ℕ) → Answered (Lines Answers) first written read last contents → Q first last
    all_answered read t = all_lines first last _ _ t.run

    cut_short : (read : List ℕ) (ended : Type 0) → Cut (Lines Answers) ended first written read last contents
        → Q first last
    cut_short read ended t =
        chain first t.middle last (all_lines first t.middle _ _ t.run)
        (one_line t.middle last t.line t.reply t.answers)

    stopped : (read : List ℕ) (ended : Type 0) → Stopped (Lines Answers) ended first written read last contents
        → Q first last
    stopped read ended (inl cut) = cut_short read ended cut
    stopped read ended (inr (inl all)) = all_answered read all
    stopped read ended (inr (inr end)) = transcribed read end.1 end.2

    halted : (read : List ℕ) (ended : Type 0) → Halted (Lines Answers) ended first written read last contents
        → Q first last
    halted read ended t = all_lines first last _ _ t.run

    -- .. whatever the outcome of a session without a keeper
    pub talked : (Read : List ℕ → Type 0) (ended source sink : Type 0) (result : Result ℕ RunFault)
        → IfOk result (λ answered. (read : List ℕ) × Read read × ended
        × Transcribed (Lines Answers) first written read last contents answered)
        → (result ≡ Err faults.Sink
        → (read : List ℕ) × Read read × Stopped (Lines Answers) ended first written read last contents)
        → (result ≡ Err faults.Source
        → (read : List ℕ) × Read read × Answered (Lines Answers) first written read last contents)
        → result ≢ Err faults.Keep
        → (result ≡ Err faults.Memory → source × sink × (last ≡ first))
        → Q first last
    talked Read ended source sink (Ok answered) all cut some kept none = transcribed all.0 answered all.3
    talked Read ended source sink (Err faults.Sink) all cut some kept none = stopped (cut refl).0 ended (cut refl).2
    talked Read ended source sink (Err faults.Source) all cut some kept none = all_answered (some refl).0 (some refl).2
    talked Read ended source sink (Err faults.Keep) all cut some kept none = absurd (kept refl)
    talked Read ended source sink (Err faults.Memory) all cut some kept none = unchanged first last (none refl).2

    -- .. and of one with a keeper
    pub conversed : (Read : List ℕ → Type 0) (ended holds can_fail source sink keeper : Type 0)
        (result : Result ℕ RunFault)
        → IfOk result (λ answered. (read : List ℕ) × Read read × ended
        × Transcribed (Lines Answers) first written read last contents answered)
        → (result ≡ Err faults.Sink → (read : List ℕ) × Read read
        × (Stopped (Lines Answers) ended first written read last contents
        ⊎ (holds × Halted (Lines Answers) ended first written read last contents)))
        → (result ≡ Err faults.Source
        → (read : List ℕ) × Read read × Answered (Lines Answers) first written read last contents)
        → (result ≡ Err faults.Keep
        → can_fail × (read : List ℕ) × Read read × Halted (Lines Answers) ended first written read last contents)
        → (result ≡ Err faults.Memory → source × sink × (last ≡ first) × keeper)
        → Q first last
    conversed Read ended holds can_fail source sink keeper (Ok answered) all cut some kept none =
        transcribed all.0 answered all.3
    conversed Read ended holds can_fail source sink keeper (Err faults.Sink) all cut some kept none =
        elim ((cut refl).2) [
          | inl whole ↦ stopped (cut refl).0 ended whole
          | inr part ↦ halted (cut refl).0 ended part.1
        ]
    conversed Read ended holds can_fail source sink keeper (Err faults.Source) all cut some kept none =
        all_answered (some refl).0 (some refl).2
    conversed Read ended holds can_fail source sink keeper (Err faults.Keep) all cut some kept none =
        halted (kept refl).1 ended (kept refl).3
    conversed Read ended holds can_fail source sink keeper (Err faults.Memory) all cut some kept none =
        unchanged first last (none refl).2
