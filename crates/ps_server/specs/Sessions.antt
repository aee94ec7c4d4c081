-- What the sessions of a server do to the passes of its slots, and to its sheet.
use Rattle.std.specs.Prelude.{◌≡◌, ◌+◌, ⊤, ℕ, zero, suc, List, [], ◌∷◌, length, map, min, sum_by}
use Rattle.ps_delta.specs.Deltas.{Entries}
use Rattle.ps_lines.specs.Streams.{Run}
use Rattle.ps_desk.specs.Closing.{HistoryBegins, IsClosed, appended_of}
use Rattle.ps_desk.specs.Opening.{new_passes}
use Rattle.ps_desk.specs.Passes.{PassView}
use Rattle.ps_desk.specs.Seats.{GoesOn, SeatLines}
use Rattle.ps_sheet.specs.Sheet.{IsSheet, SheetView}

-- ATTENDED: a session that began with the pass `old` answered `lines`, one after another, with `text`, and ended with
-- the pass `new`. Its desk has this replica and began with the history `opening`
pub record IsAttended (replica : ℕ) (opening : List Entries) (old new : PassView) : Type 0 where
  pub lines : List (List ℕ)
  pub text : List ℕ
  pub run : Run (SeatLines replica opening) old lines text new
  pub goes_on : GoesOn old new

-- `old` became `new` in this many sessions, one after another: each began with the pass that the session before it left
abbrev pub Attended : ℕ → List Entries → ℕ → PassView → PassView → Type 0
Attended replica opening zero old new = new ≡ old
Attended replica opening (suc n) old new =
    (middle : PassView) × Attended replica opening n old middle × IsAttended replica opening middle new

-- a slot's pass before the slot's first session, and how many sessions the slot has begun
pub record Turns : Type 0 where
  pub first : PassView
  pub begun : ℕ

-- each slot's pass came back from all sessions of the slot, in the order of the slots
abbrev pub Back : ℕ → List Entries → List Turns → List PassView → Type 0
Back replica opening [] [] = ⊤
Back replica opening [] (new ∷ news) = ⊥
Back replica opening (turns ∷ rest) [] = ⊥
Back replica opening (turns ∷ rest) (new ∷ news) =
    Attended replica opening turns.begun turns.first new × Back replica opening rest news

-- the passes `olds` came back as `news` from `sessions` sessions in all, each as the sessions of its slot left it
pub record AreBack (replica : ℕ) (opening : List Entries) (sessions : ℕ) (olds news : List PassView) : Type 0 where
  pub turns : List Turns
  pub firsts : map (λ t. t.first) turns ≡ olds
  pub all : sum_by (λ t. t.begun) turns ≡ sessions
  pub each : Back replica opening turns news

-- SERVED: `sessions` sessions shared the sheet `first`, and left the sheet `last`. There were as many slots as were
-- asked for, or as there were sessions, if these were fewer. Each slot began with a pass that had seen nothing. The
-- lines that the sessions of the slot answered, one session after another, took that pass to the one that came back.
-- The history begins with what each pass stands for, has grown by exactly what all passes appended, and is what one
-- legal list stands for
pub record IsServed (seats sessions : ℕ) (first last : SheetView) : Type 0 where
  pub is_sheet : IsSheet last
  pub replica : last.replica ≡ first.replica
  pub passes : List PassView
  pub count : length passes ≡ min sessions seats
  pub back : AreBack first.replica first.history sessions (new_passes (length passes)) passes
  pub begins : HistoryBegins first.history last.history passes
  pub grown : length last.history ≡ length first.history + appended_of passes
  pub closed : IsClosed first.history last.history passes
