-- What a sheet answers to a line. The replica, and the history of deltas that it has accepted, decide the answer. What
-- the sheet shows follows from them.
use Rattle.std.specs.Prelude.{◌≡◌, ◌≢◌, ◌⊎◌, ◌<◌, ◌++◌, ◌∷◌, [], ℕ, List, length, ⊤}
use Rattle.std.specs.Prelude.{Result, Ok, Err, IsOk, unwrap_or}
use Rattle.ps_grid.specs.declared.refusal.Refusal.{Refusal}
use Rattle.ps_grid.specs.declared.refusal.Refusal.TheVariants as refusals
use Rattle.ps_grid.specs.Rectangle.{spanned}
use Rattle.ps_eval.specs.Items.{Assignment}
use Rattle.ps_delta.specs.State.{IsBelow}
use Rattle.ps_delta.specs.Deltas.{Entries, joined_history, state_of}
use Rattle.ps_cells.specs.Settled.{IsSettled}
use Rattle.ps_sheet.specs.Edits.{delta_of_edit}
use Rattle.ps_sheet.specs.Merges.{IsNewsDelta}
use Rattle.ps_sheet.specs.Sheet.{SheetView, Takes}
use Rattle.ps_csv.specs.Exports.{entry_text, exported, exported_entries, held_in}
use Rattle.ps_lines.specs.PullReplies.{IsPullReply}
use Rattle.ps_lines.specs.Commands.{Read, ReadsLine}
use Rattle.ps_lines.specs.Replies.{done_text, entries_reply, entry_reply, refusal_text, replica_text, rows_text}
use Rattle.ps_lines.specs.Replies.{same_text, value_text, version_text}
use Rattle.ps_lines.specs.Streams.{Answering, Lines}
use Rattle.ps_lines.specs.declared.command.Command.{Command}
use Rattle.ps_lines.specs.declared.command.Command.TheVariants.{Edit, Entries as AllEntries, Entry, Get, Merge}
use Rattle.ps_lines.specs.declared.command.Command.TheVariants.{Pull, Push, Replica, Rows, Wait}

-- the outcome of an edit: the history ends with its delta, and the reply is the new version; or it is refused
abbrev pub Edited : Result Entries Refusal → List Entries → List ℕ → List Entries → Type 0
Edited (Ok delta) history text next = (next ≡ history ++ delta ∷ []) × (text ≡ done_text (length next))
Edited (Err refusal) history text next = (next ≡ history) × (text ≡ refusal_text refusal)

-- the outcome of a merged delta: the history ends with its news (its new parts), and the reply is the new version. Or
-- it has none, and the reply says that all is the same
abbrev pub IsMerged : Entries → List Entries → List ℕ → List Entries → Type 0
IsMerged delta history text next =
    ((news : Entries) × IsNewsDelta (joined_history history) delta news × (next ≡ history ++ news ∷ [])
    × (text ≡ done_text (length next)))
    ⊎ (IsBelow (state_of delta) (joined_history history) × (next ≡ history) × (text ≡ same_text (length next)))

-- what a replica with a history does for a command: the reply, and the history afterwards
abbrev pub Obeys : ℕ → List Entries → Read Command → List ℕ → List Entries → Type 0
Obeys replica history (Ok (Edit edit)) text next =
    Edited (delta_of_edit replica (joined_history history) edit) history text next
Obeys replica history (Ok (Get cell)) text next =
    (next ≡ history) × (v : Assignment) × IsSettled (joined_history history) v × (text ≡ value_text (v cell))
Obeys replica history (Ok (Rows first last)) text next = (next ≡ history) × (v : Assignment)
    × IsSettled (joined_history history) v
    × (text ≡ rows_text ((spanned first last).height) (exported v (spanned first last)))
Obeys replica history (Ok (Entry cell)) text next =
    (next ≡ history) × (text ≡ entry_reply (entry_text (held_in history) cell))
Obeys replica history (Ok (AllEntries first last)) text next = (next ≡ history)
    × (text ≡ entries_reply ((spanned first last).height) (exported_entries (held_in history) (spanned first last)))
Obeys replica history (Ok (Pull from most)) text next =
    (next ≡ history) × IsPullReply history from (unwrap_or most 1) text
Obeys replica history (Ok (Push delta)) text next = Takes delta history next × (text ≡ done_text (length next))
Obeys replica history (Ok (Merge delta)) text next = IsMerged delta history text next
Obeys replica history (Ok (Replica named)) text next = (next ≡ history) × (text ≡ replica_text replica)
Obeys replica history (Ok (Wait seen)) text next = (next ≡ history) × (text ≡ version_text (length history))
Obeys replica history (Err refusal) text next = (next ≡ history) × (text ≡ refusal_text refusal)

-- a line is carried out: the reply and the sheet are as its command asks
pub record Serves (old : SheetView) (line text : List ℕ) (new : SheetView) : Type 0 where
  pub asked : Read Command
  pub reads : ReadsLine line asked
  pub ample : asked ≢ Err refusals.Memory
  pub obeys : Obeys old.replica old.history asked text new.history
  pub replica : new.replica ≡ old.replica

-- the command takes memory, at a replica with a history: an edit whose delta is made, a table, an entry, a delta that
-- is returned or taken in. A read of a cell, of the version or of the replica takes none, and neither does an edit that
-- is refused
abbrev pub TakesMemory : ℕ → List Entries → Read Command → Type 0
TakesMemory replica history (Ok (Edit edit)) = IsOk (delta_of_edit replica (joined_history history) edit)
TakesMemory replica history (Ok (Get cell)) = ⊥
TakesMemory replica history (Ok (Rows first last)) = ⊤
TakesMemory replica history (Ok (Entry cell)) = ⊤
TakesMemory replica history (Ok (AllEntries first last)) = ⊤
TakesMemory replica history (Ok (Pull from most)) = from < length history
TakesMemory replica history (Ok (Push delta)) = ⊤
TakesMemory replica history (Ok (Merge delta)) = ⊤
TakesMemory replica history (Ok (Replica named)) = ⊥
TakesMemory replica history (Ok (Wait seen)) = ⊥
TakesMemory replica history (Err refusal) = refusal ≡ refusals.Memory

-- out of memory, a line changes nothing: memory was needed to read it, or by its command
pub record LacksMemory (old : SheetView) (line text : List ℕ) (new : SheetView) : Type 0 where
  pub asked : Read Command
  pub reads : ReadsLine line asked
  pub takes : TakesMemory old.replica old.history asked
  pub told : text ≡ refusal_text refusals.Memory
  pub history : new.history ≡ old.history
  pub replica : new.replica ≡ old.replica

-- ANSWER: the reply of a sheet to a line that isn't empty, and the sheet afterwards
abbrev pub Answers : Answering SheetView
Answers old line text new = Serves old line text new ⊎ LacksMemory old line text new

-- .. to a line as it stands between line feeds
abbrev pub SheetLines : Answering SheetView
SheetLines = Lines Answers

-- .. if no reply is out of memory
abbrev pub AmpleLines : Answering SheetView
AmpleLines = Lines Serves
