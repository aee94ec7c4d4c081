-- What contracts see of the writer, and of a reader that reads.
use Rattle.std.specs.Prelude.{◌≡◌, ◌<◌, ℕ, zero, suc, List, [], ◌∷◌, All, fold}
use mathlib.Core.List.{IsPrefix}
use Rattle.logbook.specs.Pages.{Book}
use Rattle.ps_value.specs.declared.value.Value.{Value}
use Rattle.ps_delta.specs.Deltas.{Entries}
use Rattle.ps_face.specs.declared.patch.Note.{Note}
use Rattle.ps_face.specs.declared.waiting.TheConstants.{MOST_WAITING}
use Rattle.ps_face.specs.Legal.{Follows, history_of}
use Rattle.ps_face.specs.Seen.{Copy, CopyStands, Told, Turn, turned}

-- the published list; the beginning of it that readers are shown; and the patches that are appended and not yet
-- published
pub record Published : Type 0 where
  pub list : List Note
  pub shown : List Note
  pub pending : List Note

-- the list that was shown when the reader entered, how often it has entered, and the values of all cells in order
pub record Sight : Type 0 where
  pub list : List Note
  pub enters : ℕ
  pub values : List Value

-- the patches that wait to be shown: how many there are, and what a copy takes in with all of them
pub record Gathered : Type 0 where
  pub patches : ℕ
  pub turns : List Turn

-- so many patches as a list of turns: one turn for all of them, or no turn if there are none
abbrev pub gathered : ℕ → Turn → List Turn
gathered zero t = []
gathered (suc n) t = t ∷ []

-- after it takes in these turns, the copy x stands (`CopyStands`), and its list begins with the list of x
pub record MayShow (h : List Entries) (b : Book) (x : Copy) (turns : List Turn) : Type 0 where
  pub later : IsPrefix x.list (fold turned x turns).list
  pub stands : CopyStands h b (fold turned x turns)

-- THE WRITER STANDS: what holds of the writer between two calls. x is the copy that readers take, and `told` the whole
-- published list. `word` is the book of the word that holds the list's length. `turns` is what lies in the queue of the
-- copies, `waiting` the patches that wait, and `appended` those that are pending. The copy stands, and nothing lies in
-- the queue. With all patches that wait, the copy may be shown, and then stands for the whole list. Fewer than
-- MOST_WAITING patches wait, and each appended patch may come next
pub record WriterStands (h : List Entries) (b : Book) (x : Copy) (told : Told) (word : Book) (turns : List Turn)
    (waiting : Gathered) (appended : List Note) : Type 0 where
  pub stands : CopyStands h b x
  pub none : turns ≡ []
  pub waits : MayShow h b x waiting.turns
  pub same : (fold turned x waiting.turns).list ≡ told.list
  pub few : waiting.patches < MOST_WAITING
  pub book : told.book ≡ b
  pub head : word ≡ b
  pub follows : All (Follows (history_of h told.list)) appended
