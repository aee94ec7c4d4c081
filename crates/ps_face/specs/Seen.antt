-- What contracts see of beginnings of the list, of copies, and of operations on copies (turns).
use Rattle.std.specs.Prelude.{◌≡◌, ℕ, List, length}
use Rattle.logbook.specs.Pages.{Book}
use Rattle.ps_value.specs.declared.value.Value.{Value}
use Rattle.ps_delta.specs.State.{IsInGrid}
use Rattle.ps_delta.specs.Deltas.{Entries, joined_history}
use Rattle.ps_face.specs.declared.patch.Note.{Note}
use Rattle.ps_face.specs.Values.{Changes, written}
use Rattle.ps_face.specs.Legal.{IsLegal, Shows, history_of}

-- a beginning of the list in a book
pub record Told : Type 0 where
  pub book : Book
  pub list : List Note

-- a copy of the shown values: the version, the values of all cells in order, and the list in a book that it stands for
pub record Copy : Type 0 where
  pub book : Book
  pub list : List Note
  pub version : ℕ
  pub values : List Value

-- an operation on a copy: cells with new values, and the version and the list that the copy then has
pub record Turn : Type 0 where
  pub book : Book
  pub list : List Note
  pub version : ℕ
  pub changes : Changes

-- the copy x after the operation t
abbrev pub turned : Copy → Turn → Copy
turned x t = record { book = t.book; list = t.list; version = t.version; values = written x.values t.changes }

-- THE COPY STANDS: the list is legal from the opening history h, and the copy shows the settled values of the history
-- that the list stands for
pub record CopyStands (h : List Entries) (b : Book) (x : Copy) : Type 0 where
  pub book : x.book ≡ b
  pub legal : IsLegal h x.list
  pub version : x.version ≡ length (history_of h x.list)
  pub in_grid : IsInGrid (joined_history (history_of h x.list))
  pub shows : Shows (history_of h x.list) x.values
