-- What the line that a session holds says of the bytes between two line feeds.
use Rattle.std.proofs.Common.{◌≡◌, ◌^◌, ◌+◌, ◌-◌, ℕ, min, Bool, true, List, length, refl, sym}
use Rattle.std.proofs.Common.{[], ◌∷◌, ◌<◌, arith, Option, Some, None, Result, Ok, Err, subst}
use Rattle.std.specs.Prelude.{if◌then◌else◌, MatchBool, OnOk}
use Rattle.ps_device.specs.Device.{Sends}
use Rattle.ps_lines.specs.Feeding.{kept, without_return}
use Rattle.ps_lines.specs.Streams.{Answering, Handles, Replies}
use Rattle.ps_session.specs.Transcript.{has_reply, is_filled}
use Rattle.ps_lines.proofs.FeedLemmas.{fits_kept, long_kept}
use Rattle.ps_session.specs.Boards.{BoardAnswers, Calls, Obeyed}
use Rattle.ps_lines.specs.Commands.{Read, ReadsLine}
use Rattle.ps_session.specs.Inside.Holds.{Replied, Tells, as_one}
use Rattle.ps_lines.specs.declared.command.Command.{Command}

module _ {State E : Type 0} (refused : List ℕ) (Answers : Answering State) (old new : State) (contents after : Option
    (List ℕ)) (answered counted : ℕ)
    (result : Result (Unit {0}) E) where
  -- the reply where the test on the length answers b
  abbrev Tested : List ℕ → Bool → Type 0
  Tested raw b = Replied
      (λ o t w. MatchBool b (Replies Answers o (without_return raw) t w) ((t ≡ refused) × (w ≡ o)))
      old new (as_one (if b then is_filled (without_return raw) else true)) contents after answered counted result

  pub handled_full : (raw line : List ℕ) → kept raw ≡ Some line
      → Replied (λ o t w. Replies Answers o (without_return line) t w) old new (as_one (is_filled (without_return
      line))) contents after answered counted result
      → Replied (λ o t w. Handles refused Answers o raw t w) old new (as_one (has_reply raw)) contents after answered
      counted result
  handled_full raw line is given =
      let fits = fits_kept raw line is in
      subst (Tested raw) (sym fits.0)
      (subst (λ l. Replied (λ o t w. Replies Answers o (without_return l) t w) old new (as_one (is_filled
      (without_return l))) contents after answered counted result) (sym fits.1) given)

  refused_line : (r : Result (Unit {0}) E) → old ≡ new → Sends contents after r refused
      → OnOk r (counted ≡ min (answered + 1) (2 ^ 64 - 1))
      → Replied (λ o t w. (t ≡ refused) × (w ≡ o)) old new 1 contents after answered counted r
  refused_line (Ok x) stays sent counts = (refused, (refl, sym stays), sent, counts)
  refused_line (Err e) stays sent counts = (refused, sent.0, (refl, sym stays), sent.1, sent.2)

  pub handled_long : (raw : List ℕ) → kept raw ≡ None → old ≡ new → Sends contents after result refused
      → OnOk result (counted ≡ min (answered + 1) (2 ^ 64 - 1))
      → Replied (λ o t w. Handles refused Answers o raw t w) old new (as_one (has_reply raw)) contents after answered
      counted result
  handled_long raw is stays sent counts = subst (Tested raw) (sym (long_kept raw is)) (refused_line result stays sent
      counts)

-- a line that isn't empty was answered, and the reply was sent
pub replied_line : {State E : Type 0} (Answers : Answering State) (old new : State) (line reply : List ℕ)
    (contents after : Option (List ℕ)) (answered counted : ℕ) (result : Result (Unit {0}) E)
    → 0 < length line → Answers old line reply new → Sends contents after result reply
    → OnOk result (counted ≡ min (answered + 1) (2 ^ 64 - 1))
    → Replied (λ o t w. Replies Answers o line t w) old new (as_one (is_filled line)) contents after answered counted
    result
replied_line Answers old new [] reply contents after answered counted result some answers sent counts =
    absurd (omega (arith, some))
replied_line Answers old new (b ∷ bs) reply contents after answered counted (Ok x) some answers sent counts =
    (reply, answers, sent, counts)
replied_line Answers old new (b ∷ bs) reply contents after answered counted (Err e) some answers sent counts =
    (reply, sent.0, answers, sent.1, sent.2)

-- a line was carried out, which is its answer, and its reply was put
pub told_by : {State E : Type 0} (calls : Calls State) (Answers : Answering State)
    (law : (x y : State) (line text : List ℕ) → BoardAnswers calls x line text y → Answers x line text y)
    (old new : State) (line reply : List ℕ) (asked : Read Command)
    (contents after : Option (List ℕ)) (result : Result (Unit {0}) E) → ReadsLine line asked
    → Obeyed calls old asked reply new → Sends contents after result reply
    → Tells (λ o t w. Answers o line t w) old new contents after result
told_by calls Answers law old new line reply asked contents after result reads obeyed sent =
    (reply, law old new line reply (record { asked = asked; reads = reads; obeyed = obeyed }), sent)
