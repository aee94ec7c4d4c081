-- What a sheet answers as a board. A refusal changes nothing.
use Rattle.std.specs.Prelude.{◌≡◌, ◌⊎◌, ◌<◌, ◌≤◌, ◌++◌, ◌∷◌, [], ℕ, List, length, take, drop, Ok, Err, IsOk, IsOkAnd}
use Rattle.ps_grid.specs.Rectangle.{Area}
use Rattle.ps_grid.specs.declared.refusal.Refusal.TheVariants as refusals
use Rattle.ps_value.specs.declared.value.Value.{Value}
use Rattle.ps_eval.specs.Items.{Assignment}
use Rattle.ps_delta.specs.State.{IsBelow}
use Rattle.ps_delta.specs.Deltas.{Entries, joined_history, state_of}
use Rattle.ps_cells.specs.Settled.{IsSettled}
use Rattle.ps_sheet.specs.Edits.{delta_of_edit}
use Rattle.ps_sheet.specs.Merges.{IsNewsDelta}
use Rattle.ps_sheet.specs.Sheet.{SheetView, Takes}
use Rattle.ps_delta.specs.declared.edit.Edit.{Edit}
use Rattle.ps_csv.specs.Exports.{entry_text, exported, exported_entries, held_in}
use Rattle.ps_session.specs.Boards.{Calls}
use Rattle.ps_session.specs.declared.board.Merged.{Merged}
use Rattle.ps_session.specs.declared.board.Merged.TheVariants.{Known, New}
use Rattle.ps_lines.specs.Commands.{Read}

-- the history has this many deltas now, and the replica is the same
pub record Counts (old : SheetView) (n : ℕ) (new : SheetView) : Type 0 where
  pub number : n ≡ length new.history
  pub replica : new.replica ≡ old.replica

-- the history ends with the delta of the edit; it is out of memory only if there is such a delta
abbrev pub SheetEdits : SheetView → Edit → Read ℕ → SheetView → Type 0
SheetEdits old edit (Ok number) new =
    IsOkAnd (delta_of_edit old.replica (joined_history old.history) edit) (λ d. new.history ≡ old.history ++ d ∷ [])
    × Counts old number new
SheetEdits old edit (Err refusal) new =
    ((delta_of_edit old.replica (joined_history old.history) edit ≡ Err refusal)
    ⊎ ((refusal ≡ refusals.Memory) × IsOk (delta_of_edit old.replica (joined_history old.history) edit)))
    × (new ≡ old)

-- the history ends with the delta, or the delta changes nothing
abbrev pub SheetReceives : SheetView → Entries → Read ℕ → SheetView → Type 0
SheetReceives old delta (Ok number) new = Takes delta old.history new.history × Counts old number new
SheetReceives old delta (Err refusal) new = (refusal ≡ refusals.Memory) × (new ≡ old)

-- the history ends with the news of the delta, its new parts; or there are none, and the delta changes nothing
abbrev pub SheetMerges : SheetView → Entries → Read Merged → SheetView → Type 0
SheetMerges old delta (Ok (New number)) new =
    ((news : Entries) × IsNewsDelta (joined_history old.history) delta news
    × (new.history ≡ old.history ++ news ∷ []))
    × Counts old number new
SheetMerges old delta (Ok (Known number)) new =
    (IsBelow (state_of delta) (joined_history old.history) × (new.history ≡ old.history)) × Counts old number new
SheetMerges old delta (Err refusal) new = (refusal ≡ refusals.Memory) × (new ≡ old)

-- a look at a sheet sees the settled values of its history
abbrev pub Looks : SheetView → (Assignment → Type 0) → SheetView → Type 0
Looks old Sees new = ((v : Assignment) × IsSettled (joined_history old.history) v × Sees v) × (new ≡ old)

abbrev pub SheetShows : SheetView → ℕ → Read Value → SheetView → Type 0
SheetShows old cell (Ok value) new = Looks old (λ v. value ≡ v cell) new
SheetShows old cell (Err refusal) new = ⊥

abbrev pub SheetTables : SheetView → Area → Read (List ℕ) → SheetView → Type 0
SheetTables old rect (Ok text) new = Looks old (λ v. text ≡ exported v rect) new
SheetTables old rect (Err refusal) new = (refusal ≡ refusals.Memory) × (new ≡ old)

-- the entries of what the cells hold by the history
abbrev pub SheetHolds : SheetView → ℕ → Read (List ℕ) → SheetView → Type 0
SheetHolds old cell (Ok text) new = (text ≡ entry_text (held_in old.history) cell) × (new ≡ old)
SheetHolds old cell (Err refusal) new = (refusal ≡ refusals.Memory) × (new ≡ old)

abbrev pub SheetLists : SheetView → Area → Read (List ℕ) → SheetView → Type 0
SheetLists old rect (Ok text) new = (text ≡ exported_entries (held_in old.history) rect) × (new ≡ old)
SheetLists old rect (Err refusal) new = (refusal ≡ refusals.Memory) × (new ≡ old)

-- the deltas of the history after a number that isn't beyond its end; it is out of memory only if there is one
abbrev pub SheetPulls : SheetView → ℕ → ℕ → Read (List Entries) → SheetView → Type 0
SheetPulls old from most (Ok deltas) new =
    (from ≤ length old.history) × (deltas ≡ take most (drop from old.history)) × (new ≡ old)
SheetPulls old from most (Err refusal) new =
    (((refusal ≡ refusals.Version) × (length old.history < from))
    ⊎ ((refusal ≡ refusals.Memory) × (from < length old.history)))
    × (new ≡ old)

-- it doesn't wait: nobody else changes the sheet
abbrev pub SheetWaits : SheetView → ℕ → ℕ → SheetView → Type 0
SheetWaits old seen number new = (number ≡ length old.history) × (new ≡ old)

-- the replica that the sheet was opened with
abbrev pub SheetReplica : SheetView → ℕ → SheetView → Type 0
SheetReplica old number new = (number ≡ old.replica) × (new ≡ old)

abbrev pub SheetCalls : Calls SheetView
SheetCalls = record {
  edits = SheetEdits;
  receives = SheetReceives;
  merges = SheetMerges;
  shows = SheetShows;
  tables = SheetTables;
  holds = SheetHolds;
  lists = SheetLists;
  pulls = SheetPulls;
  waits = SheetWaits;
  replica = SheetReplica;
}
