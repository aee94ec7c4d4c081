-- Where a session stands between two pieces of its input.
use Rattle.std.specs.Prelude.{◌≡◌, ◌⊎◌, ◌+◌, ◌-◌, ◌^◌, ◌++◌, ℕ, List, Option, count_by, min}
use Rattle.std.specs.Io.KnownBytes.{Appends}
use Rattle.ps_lines.specs.Feeding.{kept}
use Rattle.ps_session.specs.Keeping.{Halted}
use Rattle.ps_session.specs.Transcript.{Answered, Cut, has_reply}
use Rattle.ps_lines.specs.Streams.{Answering, Run, Splits}

-- how many lines had a reply, counted on from this number, or the greatest 64-bit number if there are more
abbrev pub counted_from : ℕ → List (List ℕ) → ℕ
counted_from base lines = min (base + count_by has_reply lines) (2 ^ 64 - 1)

-- the complete lines that were read were answered, and the rest is held
pub record Stands {State : Type 0} (Line : Answering State) (first : State) (written : Option (List ℕ)) (base : ℕ)
    (read : List ℕ)
    (last : State) (pending : Option (List ℕ)) (contents : Option (List ℕ)) (answered : ℕ) : Type 0 where
  pub lines : List (List ℕ)
  pub rest : List ℕ
  pub text : List ℕ
  pub split : Splits read lines rest
  pub run : Run Line first lines text last
  pub held : pending ≡ kept rest
  pub sent : Appends written contents text
  pub counted : answered ≡ counted_from base lines

-- whatever came before, these bytes were taken in: each line that ended among them was answered
abbrev pub GoesOn : {State : Type 0} → Answering State → List ℕ → State → Option (List ℕ) → Option (List ℕ) → ℕ → State
    → Option (List ℕ) → Option (List ℕ) → ℕ → Type 0
GoesOn {State} Line bytes old held before count new pending contents answered =
    (first : State) (written : Option (List ℕ)) (base : ℕ) (read : List ℕ)
    → Stands Line first written base read old held before count
    → Stands Line first written base (read ++ bytes) new pending contents answered

-- .. or the reply to one of these lines was cut
abbrev pub CutsShort : {State : Type 0} → Answering State → List ℕ → State → Option (List ℕ) → Option (List ℕ) → ℕ
    → State → Option (List ℕ) → Type 0
CutsShort {State} Line bytes old held before count new contents =
    (first : State) (written : Option (List ℕ)) (base : ℕ) (read : List ℕ)
    → Stands Line first written base read old held before count
    → Cut Line ⊥ first written (read ++ bytes) new contents

-- whatever came so far was taken in
abbrev pub IsUnderWay : {State : Type 0} → Answering State → State → Option (List ℕ) → Option (List ℕ) → ℕ → Type 0
IsUnderWay {State} Line last pending contents answered =
    (first : State) × (written : Option (List ℕ)) × (base : ℕ) × (read : List ℕ)
    × Stands Line first written base read last pending contents answered

-- the sink failed before the end of the input. The reply to one line was cut; or every line was answered, and what
-- waits couldn't be sent. If replies are held back, it may also be that just the first lines were answered
abbrev pub Breaks : {State : Type 0} → Answering State → Type 0 → State → Option (List ℕ) → List ℕ → State
    → Option (List ℕ) → Type 0
Breaks Line holds_back first written read last contents =
    Cut Line ⊥ first written read last contents
    ⊎ Answered Line first written read last contents
    ⊎ (holds_back × Halted Line ⊥ first written read last contents)
