-- The transcript of a session: the lines that the bytes hold, the reply to each, and the state after them. The pieces
-- in which the bytes came don't matter.
use Rattle.std.specs.Prelude.{◌≡◌, ◌⊎◌, ◌<◌, ◌^◌, ◌-◌, ℕ, Bool, true, false, List, [], ◌∷◌, ◌++◌, length, take, min}
use Rattle.std.specs.Prelude.{Option, if◌then◌else◌, nat_le, count_by}
use Rattle.std.specs.List.{All}
use Rattle.std.specs.Io.KnownBytes.{Appends}
use Rattle.ps_lines.specs.declared.line_buffer.TheConstants.{LINE_LIMIT}
use Rattle.ps_lines.specs.Feeding.{HasNoFeed, without_return}
use Rattle.ps_lines.specs.Streams.{Answering, IsAfterLine, Run, Splits, stream_of, with_last}

abbrev pub is_filled : List ℕ → Bool
is_filled [] = false
is_filled (b ∷ bs) = true

-- the line has a reply
abbrev pub has_reply : List ℕ → Bool
has_reply raw = if nat_le (length raw) LINE_LIMIT then is_filled (without_return raw) else true

-- how many lines have a reply, or the greatest 64-bit number if there are more
abbrev pub answered_count : List (List ℕ) → ℕ
answered_count lines = min (count_by has_reply lines) (2 ^ 64 - 1)

-- all lines of the bytes were answered
pub record Transcribed {State : Type 0} (Line : Answering State) (first : State) (written : Option (List ℕ)) (read :
    List ℕ)
    (last : State) (contents : Option (List ℕ)) (answered : ℕ) : Type 0 where
  pub lines : List (List ℕ)
  pub rest : List ℕ
  pub text : List ℕ
  pub split : Splits read lines rest
  pub run : Run Line first (with_last lines rest) text last
  pub sent : Appends written contents text
  pub counted : answered ≡ answered_count (with_last lines rest)

-- the complete lines of the bytes were answered
pub record Answered {State : Type 0} (Line : Answering State) (first : State) (written : Option (List ℕ)) (read :
    List ℕ)
    (last : State) (contents : Option (List ℕ)) : Type 0 where
  pub lines : List (List ℕ)
  pub rest : List ℕ
  pub text : List ℕ
  pub split : Splits read lines rest
  pub run : Run Line first lines text last
  pub sent : Appends written contents text

-- the reply to one line was cut. All lines before it were answered, and the state is the one after that line
pub record Cut {State : Type 0} (Line : Answering State) (ended : Type 0) (first : State) (written : Option (List ℕ))
    (read : List ℕ)
    (last : State) (contents : Option (List ℕ)) : Type 0 where
  pub lines : List (List ℕ)
  pub line : List ℕ
  pub after : List ℕ
  pub text : List ℕ
  pub middle : State
  pub reply : List ℕ
  pub count : ℕ
  pub whole : read ≡ stream_of lines (line ++ after)
  pub each : All HasNoFeed lines
  pub one : HasNoFeed line
  pub ends : IsAfterLine ended after
  pub run : Run Line first lines text middle
  pub answers : Line middle line reply last
  pub short : count < length reply
  pub sent : Appends written contents (text ++ take count reply)

-- the sink failed: the reply to one line was cut; or every line was answered, and what waits couldn't be sent
abbrev pub Stopped : {State : Type 0} → Answering State → Type 0 → State → Option (List ℕ) → List ℕ → State
    → Option (List ℕ) → Type 0
Stopped Line ended first written read last contents =
    Cut Line ended first written read last contents
    ⊎ Answered Line first written read last contents
    ⊎ (ended × (answered : ℕ) × Transcribed Line first written read last contents answered)
