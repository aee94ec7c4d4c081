-- A server's sheet whose changes a journal makes durable.
use Rattle.std.specs.Prelude.{◌≡◌, ℕ, List, false}
use Rattle.ps_delta.specs.Deltas.{Entries}
use Rattle.ps_keep.specs.Journals.{IsJournal, JournalView}
use Rattle.ps_kept.specs.Kept.{TellHistory}

-- KEEPS: the journal's lines say this history of a replica, all of them are durable, and the journal hasn't failed
pub record KeepsHistory (replica : ℕ) (history : List Entries) (journal : JournalView) : Type 0 where
  pub is_journal : IsJournal journal
  pub told : TellHistory replica journal.lines history
  pub kept : journal.kept ≡ journal.lines
  pub goes_on : journal.has_failed ≡ false
