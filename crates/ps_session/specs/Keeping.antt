-- What a session keeps before it sends replies: whatever a reply shows or acknowledges is kept before the reply is out.
use Rattle.std.specs.Prelude.{◌≡◌, ◌⊎◌, ◌≤◌, ℕ, List, [], ◌∷◌, ◌++◌, Option, Some}
use Rattle.std.specs.List.{All}
use Rattle.std.specs.Io.KnownBytes.{Appends}
use Rattle.ps_grid.specs.declared.parties.TheConstants.{REPLICAS}
use Rattle.ps_delta.specs.Deltas.{Entries}
use Rattle.ps_sheet.specs.Sheet.{SheetView}
use Rattle.ps_lines.specs.PullReplies.{HasLine}
use Rattle.ps_lines.specs.Feeding.{HasNoFeed}
use Rattle.ps_lines.specs.Streams.{Answering, Run, stream_of}

-- these are the first lines of the bytes; if the input has ended, the last of all may lack its line feed
pub record AreFirstLines (ended : Type 0) (bytes : List ℕ) (lines : List (List ℕ)) : Type 0 where
  pub after : List ℕ
  pub whole : (bytes ≡ stream_of lines after) ⊎ (ended × (bytes ++ 10 ∷ [] ≡ stream_of lines []))
  pub each : All HasNoFeed lines

-- the first lines of the bytes were answered, and no other was carried out
pub record Halted {State : Type 0} (Line : Answering State) (ended : Type 0) (first : State)
    (written : Option (List ℕ)) (read : List ℕ) (last : State) (contents : Option (List ℕ)) : Type 0 where
  pub lines : List (List ℕ)
  pub text : List ℕ
  pub front : AreFirstLines ended read lines
  pub run : Run Line first lines text last
  pub sent : Appends written contents text

-- what was sent (all that was put, without what waits) is a beginning of the earlier bytes and the text
abbrev pub SendsOnly : Option (List ℕ) → List ℕ → Option (List ℕ) → List ℕ → Type 0
SendsOnly written text contents waiting = (before all delivered : List ℕ) → written ≡ Some before → contents ≡ Some all
    → all ≡ delivered ++ waiting → (rest : List ℕ) × (delivered ++ rest ≡ before ++ text)

-- COVERED: there is a kept state of the board, after the first lines of the bytes and before the others that were
-- carried out. What was sent is a beginning of the replies to these first lines. If no reply was sent, nothing needs to
-- be kept
pub record IsCovered {State : Type 0} (Line : Answering State) (covers : State → Type 0) (ended : Type 0)
    (first : State) (written : Option (List ℕ)) (read : List ℕ) (last : State) (contents : Option (List ℕ))
    (waiting : List ℕ) : Type 0 where
  pub lines : List (List ℕ)
  pub others : List (List ℕ)
  pub state : State
  pub text : List ℕ
  pub due : List ℕ
  pub front : AreFirstLines ended read (lines ++ others)
  pub run : Run Line first lines text state
  pub since : Run Line state others due last
  pub kept : covers state ⊎ (text ≡ [])
  pub delivered : SendsOnly written text contents waiting

-- what fits a board still fits it after a line
abbrev pub StaysFit : {Keeper State : Type 0} → Answering State → (Keeper → State → Type 0) → Type 0
StaysFit {Keeper} {State} Answers fits = (keeper : Keeper) (old new : State) (line text : List ℕ)
    → Answers old line text new → fits keeper old → fits keeper new

-- a later state of a sheet: its history is longer, or the same
pub record IsLater (old new : SheetView) : Type 0 where
  pub replica : new.replica ≡ old.replica
  pub more : List Entries
  pub history : new.history ≡ old.history ++ more
  -- if each delta of the history has a line, each of the later one has
  pub lines : 1 ≤ old.replica → old.replica ≤ REPLICAS → All HasLine old.history → All HasLine new.history
