-- A kept file that is squashed in place.
use Rattle.std.specs.Prelude.{◌≡◌, ◌/◌, ℕ, Bool, List, Option, Some, None, if◌then◌else◌, length, nat_le, nat_lt}
use Rattle.ps_delta.specs.Deltas.{Entries, joined_history}
use Rattle.ps_keep.specs.Lines.{text as text_of, whole_lines}
use Rattle.ps_kept.specs.Starts.{Reads}
use Rattle.ps_squash.specs.Squashed.{IsSquashed}
use Rattle.ps_shorten.specs.declared.in_place.Shortened.{Shortened}
use Rattle.ps_shorten.specs.declared.in_place.Worth.{Worth}
use Rattle.ps_shorten.specs.declared.in_place.Worth.TheVariants as worths

-- the bytes of a file: those of the file that replaced it, or `bytes` if none did
abbrev pub content_of : List ℕ → Option (List ℕ) → List ℕ
content_of bytes None = bytes
content_of bytes (Some text) = text

-- a start of the replica reads this many changes from the bytes
abbrev pub HasChanges : ℕ → List ℕ → ℕ → Type 0
HasChanges replica bytes count = (history : List Entries) × Reads replica bytes history × (count ≡ length history)

-- TELLS THE SAME: a start of the replica reads a history in the old bytes, and one with the same join in the new bytes
pub record TellsTheSame (replica : ℕ) (old new : List ℕ) : Type 0 where
  pub history : List Entries
  pub read : Reads replica old history
  pub fewer : List Entries
  pub again : Reads replica new fewer
  pub same : joined_history fewer ≡ joined_history history

-- whether a file of `old` bytes is replaced by one of `new` bytes
abbrev pub is_worth : Worth → ℕ → ℕ → Bool
is_worth worths.Less old new = nat_lt new old
is_worth worths.Half old new = nat_le new (old / 2)

-- SQUASHED IN PLACE: the file has what `squash` makes of its whole lines if the gain is worth it, and else is as it
-- was. A start reads a history with the same join from the file. `changes` has the lengths of both histories
pub record IsShortened (worth : Worth) (replica : ℕ) (old new : List ℕ) (changes : Shortened) : Type 0 where
  pub text : List ℕ
  pub squashed : IsSquashed (text_of (whole_lines old)) text
  pub chosen : new ≡ (if is_worth worth (length old) (length text) then text else old)
  pub same : TellsTheSame replica old new
  pub before : changes.before ≡ length same.history
  pub after : changes.after ≡ length same.fewer
