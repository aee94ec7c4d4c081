-- What a board answers to a command and to a line, made from what its methods answer.
use Rattle.std.specs.Prelude.{◌≡◌, ℕ, List, max, Ok, Err, unwrap_or}
use Rattle.ps_grid.specs.Rectangle.{Area, spanned}
use Rattle.ps_value.specs.declared.value.Value.{Value}
use Rattle.ps_delta.specs.Deltas.{Entries}
use Rattle.ps_delta.specs.declared.edit.Edit.{Edit as SheetEdit}
use Rattle.ps_lines.specs.Commands.{Read, ReadsLine}
use Rattle.ps_lines.specs.PullReplies.{RepliesWith}
use Rattle.ps_lines.specs.Replies.{done_text, entries_reply, entry_reply, refusal_text, replica_text}
use Rattle.ps_lines.specs.Replies.{rows_text, same_text, value_text, version_text}
use Rattle.ps_lines.specs.declared.command.Command.{Command}
use Rattle.ps_session.specs.declared.board.Merged.{Merged}
use Rattle.ps_session.specs.declared.board.Merged.TheVariants.{Known, New}
use Rattle.ps_lines.specs.declared.command.Command.TheVariants.{Edit, Entries as AllEntries, Entry, Get, Merge}
use Rattle.ps_lines.specs.declared.command.Command.TheVariants.{Pull, Push, Replica, Rows, Wait}

-- what the methods of a board answer, or why they refuse: the state before, the question, the answer, the state after
pub record Calls (State : Type 0) : Type 1 where
  -- an edit: the number of its change
  pub edits : State → SheetEdit → Read ℕ → State → Type 0
  -- a delta made elsewhere, taken in: the number of its change, or of the last one if the delta changes nothing
  pub receives : State → Entries → Read ℕ → State → Type 0
  -- the new parts of a delta made elsewhere, taken in: the number of their change, or of the last one if nothing was
  -- new
  pub merges : State → Entries → Read Merged → State → Type 0
  -- what a cell shows: its value
  pub shows : State → ℕ → Read Value → State → Type 0
  -- what a rectangle shows: the text of its values as a table
  pub tables : State → Area → Read (List ℕ) → State → Type 0
  -- what a cell holds: its entry
  pub holds : State → ℕ → Read (List ℕ) → State → Type 0
  -- what a rectangle holds: the text of its entries as a table
  pub lists : State → Area → Read (List ℕ) → State → Type 0
  -- the deltas after a number, at most this many
  pub pulls : State → ℕ → ℕ → Read (List Entries) → State → Type 0
  -- a wait for more changes than a number: how many there are then, and never a refusal
  pub waits : State → ℕ → ℕ → State → Type 0
  -- the board's own replica: its number, and never a refusal
  pub replica : State → ℕ → State → Type 0

-- the reply to a merge is `ok` if something was new, and else `same`
abbrev pub merged_text : Merged → List ℕ
merged_text (New number) = done_text number
merged_text (Known number) = same_text number

-- the reply that an answer becomes
abbrev pub answer_text : {X : Type 0} → (X → List ℕ) → Read X → List ℕ
answer_text text (Ok answer) = text answer
answer_text text (Err refusal) = refusal_text refusal

-- a method gave an answer, and the reply has it
abbrev pub TellsAnswer : {X : Type 0} → (Read X → Type 0) → (X → List ℕ) → List ℕ → Type 0
TellsAnswer {X} Call text reply = (answer : Read X) × Call answer × (reply ≡ answer_text text answer)

-- what a board does if a line asks for this: the reply, and the board afterwards. A pull asks for at least one delta,
-- so that no delta comes back only at the end
abbrev pub Obeyed : {State : Type 0} → Calls State → State → Read Command → List ℕ → State → Type 0
Obeyed calls old (Ok (Edit edit)) reply new = TellsAnswer (λ answer. calls.edits old edit answer new) done_text reply
Obeyed calls old (Ok (Get cell)) reply new = TellsAnswer (λ answer. calls.shows old cell answer new) value_text reply
Obeyed calls old (Ok (Rows first last)) reply new =
    TellsAnswer (λ answer. calls.tables old (spanned first last) answer new)
    (rows_text ((spanned first last).height)) reply
Obeyed calls old (Ok (Entry cell)) reply new = TellsAnswer (λ answer. calls.holds old cell answer new) entry_reply reply
Obeyed calls old (Ok (AllEntries first last)) reply new = TellsAnswer
    (λ answer. calls.lists old (spanned first last) answer new) (entries_reply ((spanned first last).height)) reply
Obeyed calls old (Ok (Pull from most)) reply new = (answer : Read (List Entries))
    × calls.pulls old from (max (unwrap_or most 1) 1) answer new × RepliesWith from (unwrap_or most 1) answer reply
Obeyed calls old (Ok (Push delta)) reply new =
    TellsAnswer (λ answer. calls.receives old delta answer new) done_text reply
Obeyed calls old (Ok (Merge delta)) reply new =
    TellsAnswer (λ answer. calls.merges old delta answer new) merged_text reply
Obeyed calls old (Ok (Replica named)) reply new =
    (number : ℕ) × calls.replica old number new × (reply ≡ replica_text number)
Obeyed calls old (Ok (Wait seen)) reply new =
    (number : ℕ) × calls.waits old seen number new × (reply ≡ version_text number)
Obeyed calls old (Err refusal) reply new = (new ≡ old) × (reply ≡ refusal_text refusal)

-- ANSWER: the reply of a board with these methods to a line that isn't empty, and the board afterwards
pub record BoardAnswers {State : Type 0} (calls : Calls State) (old : State) (line reply : List ℕ) (new : State) :
    Type 0 where
  pub asked : Read Command
  pub reads : ReadsLine line asked
  pub obeyed : Obeyed calls old asked reply new
