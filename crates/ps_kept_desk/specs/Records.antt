-- How much of a desk's published list is durable.
use Rattle.std.specs.Prelude.{◌≤◌, ℕ, List, All, length, take}
use mathlib.Core.List.{IsPrefix}
use Rattle.ps_delta.specs.Deltas.{Entries}
use Rattle.ps_face.specs.declared.patch.Note.{Note}
use Rattle.ps_face.specs.Legal.{history_of}
use Rattle.ps_keep.specs.Journals.{IsJournal, JournalView}
use Rattle.ps_kept.specs.Kept.{TellHistory}

pub record RecordView : Type 0 where
  pub journal : JournalView
  -- the beginning of the published list that is durable, and the one that the record has seen
  pub kept : List Note
  pub seen : List Note
  -- how many deltas of the history have a line in the journal
  pub noted : ℕ

-- RECORD: the durable lines are those of the replica r, and of the history that the durable list stands for after the
-- opening history h. All lines of the journal are those of the replica, and of a beginning of the history that the seen
-- list stands for
pub record IsRecord (r : ℕ) (h : List Entries) (v : RecordView) : Type 0 where
  pub told : TellHistory r v.journal.kept (history_of h v.kept)
  pub noted : TellHistory r v.journal.lines (take v.noted (history_of h v.seen))
  pub within : v.noted ≤ length (history_of h v.seen)
  pub later : IsPrefix v.kept v.seen
  pub journal : IsJournal v.journal

-- ENDS KEPT: the durable lines are those of the replica, and of a beginning of this history. This beginning has what
-- each of the lists stands for, after the opening history h
pub record EndsKept (r : ℕ) (h history : List Entries) (lists : List (List Note)) (lines : List (List ℕ)) : Type 0
  where
    pub part : List Entries
    pub told : TellHistory r lines part
    pub begins : IsPrefix part history
    pub all : All (λ list. IsPrefix (history_of h list) part) lists
