-- A journal as its callers see it.
use Rattle.std.specs.Prelude.{◌≡◌, ◌≤◌, ℕ, Bool, List, ◌++◌, length, take, false, true, if◌then◌else◌}
use mathlib.Core.List.{IsPrefix}
use Rattle.ps_keep.specs.Lines.{AreLines, text}

pub record JournalView : Type 0 where
  -- the lines that were acknowledged
  pub kept : List (List ℕ)
  -- all that were noted, in order
  pub lines : List (List ℕ)
  -- what was written to the file, and how much of it is on the disk
  pub written : List ℕ
  pub synced : ℕ
  pub has_failed : Bool
  -- what the next reader of the file finds, unless the machine crashes before
  pub found : List ℕ
  -- a call failed, and the file couldn't be cut after it
  pub cut_failed : Bool

-- the bytes of a file, or after a cut those that are on the disk
abbrev pub found_of : List ℕ → ℕ → Bool → List ℕ
found_of written synced is_cut = if is_cut then take synced written else written

-- JOURNAL: the acknowledged lines are a beginning of the noted ones and are on the disk. The file has a beginning of
-- the noted lines, and nothing else. After a failed call, if the cut didn't fail, it has the acknowledged lines alone
pub record IsJournal (j : JournalView) : Type 0 where
  pub each : AreLines j.lines
  pub begins : IsPrefix j.kept j.lines
  pub holds : IsPrefix (text j.kept) j.written
  pub noted : IsPrefix j.written (text j.lines)
  pub synced : length (text j.kept) ≤ j.synced
  pub going : j.has_failed ≡ false → j.cut_failed ≡ false
  pub cut : j.has_failed ≡ true → j.cut_failed ≡ false → j.found ≡ text j.kept

-- bytes that are whole lines and nothing after them
pub record IsWhole (bytes : List ℕ) : Type 0 where
  pub lines : List (List ℕ)
  pub each : AreLines lines
  pub is : bytes ≡ text lines

-- the parts of a journal: the file as it was after the last sync, the bytes that wait since then, and the file as it is
pub record Holds (durable waiting written : List ℕ) (safe : ℕ) (has_failed is_cut cut_failed : Bool) : Type 0 where
  pub whole : IsWhole durable
  pub waits : IsWhole waiting
  pub synced : safe ≡ length durable
  pub kept : IsPrefix durable written
  pub noted : IsPrefix written (durable ++ waiting)
  pub same : has_failed ≡ false → written ≡ durable
  pub uncut : has_failed ≡ false → (is_cut ≡ false) × (cut_failed ≡ false)
  pub cut : has_failed ≡ true → cut_failed ≡ false → is_cut ≡ true
