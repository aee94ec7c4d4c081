-- The lines of a kept sheet: the first names its replica, and the others push the changes of its history in order.
use Rattle.std.specs.Prelude.{◌≡◌, ℕ, List, [], ◌∷◌, ◌++◌, map, ⊤}
use mathlib.Core.List.{IsPrefix}
use Rattle.ps_delta.specs.Deltas.{Entries}
use Rattle.ps_lines.specs.PushLine.{Pushes, push_line}
use Rattle.ps_lines.specs.ReplicaLine.{replica_line}
use Rattle.ps_keep.specs.Journals.{IsJournal, JournalView}

-- the lines push the deltas, one each, in order
abbrev pub PushAll : List (List ℕ) → List Entries → Type 0
PushAll [] [] = ⊤
PushAll [] (d ∷ ds) = ⊥
PushAll (line ∷ lines) [] = ⊥
PushAll (line ∷ lines) (d ∷ ds) = Pushes line d × PushAll lines ds

-- TOLD: the first line names this replica, and the others push this history
abbrev pub TellHistory : ℕ → List (List ℕ) → List Entries → Type 0
TellHistory replica [] history = ⊥
TellHistory replica (first ∷ others) history = (first ≡ replica_line replica) × PushAll others history

-- the lines, or a beginning of them, tell all of the history
abbrev pub HasAll : ℕ → List (List ℕ) → List Entries → Type 0
HasAll replica lines history =
    (front : List (List ℕ)) × IsPrefix front lines × TellHistory replica front history

-- KEPT: all of the history is durable in the journal
pub record IsKept (replica : ℕ) (history : List Entries) (j : JournalView) : Type 0 where
  pub journal : IsJournal j
  pub all : HasAll replica j.kept history

-- NOTED: the lines that were added to the journal tell a beginning of the history
pub record IsNoted (replica : ℕ) (history : List Entries) (j : JournalView) : Type 0 where
  pub journal : IsJournal j
  pub noted : List Entries
  pub told : TellHistory replica j.lines noted
  pub begins : IsPrefix noted history

-- the change lines of these deltas were added to the journal, and nothing else changed
pub record Notes (old : JournalView) (deltas : List Entries) (new : JournalView) : Type 0 where
  pub lines : new ≡ record old { lines = old.lines ++ map push_line deltas }
  pub each : PushAll (map push_line deltas) deltas
  pub journal : IsJournal old → IsJournal new

-- the lines of a file once it is opened: its own lines, or the first line alone where it had none
abbrev pub started : ℕ → List (List ℕ) → List (List ℕ)
started replica [] = replica_line replica ∷ []
started replica (first ∷ others) = first ∷ others
