-- The lines of the deltas that edits make, and what follows for clients that pull them.
use Rattle.std.specs.Prelude.{◌≡◌, ◌<◌, ◌≤◌, ℕ, List, length, Ok}
use Rattle.std.specs.List.{All}
use Rattle.ps_grid.specs.declared.size.TheConstants.{CELLS, COLUMNS}
use Rattle.ps_grid.specs.declared.parties.TheConstants.{REPLICAS}
use Rattle.ps_content.specs.Content.{IsContent}
use Rattle.ps_delta.specs.State.{State}
use Rattle.ps_delta.specs.Deltas.{Entries, joined_history}
use Rattle.ps_wire.specs.Value.{IsLawful}
use Rattle.ps_wire.specs.Fits.{FitsLine}
use Rattle.ps_delta.specs.Batches.{IsBatch}
use Rattle.ps_sheet.specs.Edits.{delta_of_edit}
use Rattle.ps_delta.specs.declared.edit.Edit.{Edit}
use Rattle.ps_delta.specs.declared.edit.Edit.TheVariants.{Set, SetAll, Add, Sub, Choose, Unchoose}

-- how many cells an edit names
abbrev pub named_count : Edit → ℕ
named_count (Set c content) = 1
named_count (SetAll cells) = length cells
named_count (Add c amount) = 1
named_count (Sub c amount) = 1
named_count (Choose c option) = 1
named_count (Unchoose c option) = 1

-- LAW: whatever the replica and the state, the line of the delta that an edit makes is never too long. This holds for
-- each edit of one cell, and for each batch of at most as many cells as a row has
abbrev pub EditLinesFit : Type 0
EditLinesFit =
    (replica : ℕ) (s : State) (edit : Edit) (delta : Entries) → named_count edit ≤ COLUMNS
    → delta_of_edit replica s edit ≡ Ok delta → IsLawful delta → FitsLine delta

-- the edit names cells of the grid, and gives them valid contents; the cells of a batch are ascending and distinct, and
-- there is at least one
abbrev pub IsEdit : Edit → Type 0
IsEdit (Set c content) = (c < CELLS) × IsContent content
IsEdit (SetAll cells) = IsBatch cells × All (λ e. (e.0 < CELLS) × IsContent e.1) cells
IsEdit (Add c amount) = c < CELLS
IsEdit (Sub c amount) = c < CELLS
IsEdit (Choose c option) = c < CELLS
IsEdit (Unchoose c option) = c < CELLS

-- LAW: over a history of deltas in range, an edit at a replica makes a delta in range
abbrev pub EditsAreLawful : Type 0
EditsAreLawful =
    (replica : ℕ) (history : List Entries) (edit : Edit) (delta : Entries) → 1 ≤ replica → replica ≤ REPLICAS
    → All IsLawful history → IsEdit edit → delta_of_edit replica (joined_history history) edit ≡ Ok delta
    → IsLawful delta
