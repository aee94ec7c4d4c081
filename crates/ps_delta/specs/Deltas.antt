-- A delta names cells in order, each with a state that isn't empty. It stands for a state. A list of deltas stands for
-- their join.
use Rattle.std.specs.Prelude.{◌≢◌, ◌<◌, ℕ, ◌==◌, if◌then◌else◌, List, [], ◌∷◌, length, map, fold}
use Rattle.std.specs.List.{All}
use Rattle.std.specs.List.Sorted.{IsStrictlyIncreasing}
use Rattle.ps_grid.specs.declared.size.TheConstants.{CELLS}
use Rattle.ps_delta.specs.declared.cell_state.CellState.{CellState}
use Rattle.ps_delta.specs.State.{State, empty_cell, empty_state, joined_state, with_cell}

-- cells, each with its state
abbrev pub Entries : Type 0
Entries = List (ℕ × CellState)

-- the cells alone
abbrev pub cells_of : Entries → List ℕ
cells_of entries = map (λ e. e.0) entries

-- at least one cell, in order and distinct, none with an empty state
pub record IsDelta (entries : Entries) : Type 0 where
  pub some : 0 < length entries
  pub ascending : IsStrictlyIncreasing (cells_of entries)
  pub none_empty : All (λ e. e.1 ≢ empty_cell) entries

-- in order and distinct, none with an empty state
pub record AreEntries (entries : Entries) : Type 0 where
  pub ascending : IsStrictlyIncreasing (cells_of entries)
  pub none_empty : All (λ e. e.1 ≢ empty_cell) entries

-- no cell is outside the grid
abbrev pub AreInGrid : Entries → Type 0
AreInGrid entries = All (λ e. e.0 < CELLS) entries

-- what a delta holds for a cell: its entry, and the empty cell state where it has none
unfoldable pub state_of : Entries → State
state_of [] c = empty_cell
state_of (entry ∷ rest) c = if entry.0 == c then entry.1 else state_of rest c

-- the state s, overwritten by the entries one after another
abbrev pub overlaid : State → Entries → State
overlaid s entries = fold (λ t e. with_cell t e.0 e.1) s entries

-- the join of all deltas of a list, from the empty state
unfoldable pub joined_history : List Entries → State
joined_history [] = empty_state
joined_history (delta ∷ rest) = joined_state (state_of delta) (joined_history rest)
