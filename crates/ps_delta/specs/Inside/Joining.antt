-- Cells with their states in any order, where a cell may come several times.
use Rattle.std.specs.Prelude.{◌≢◌, ◌<◌, ℕ, [], ◌∷◌, map}
use Rattle.ps_grid.specs.declared.size.TheConstants.{CELLS}
use Rattle.ps_delta.specs.declared.cell_state.CellState.{CellState}
use Rattle.ps_delta.specs.State.{State, empty_cell}
use Rattle.ps_delta.specs.Deltas.{Entries, joined_history}

-- the join of all of them
abbrev pub joined_entries : Entries → State
joined_entries entries = joined_history (map (λ e. e ∷ []) entries)

-- a cell of the grid with a state that isn't empty
abbrev pub IsEntry : ℕ × CellState → Type 0
IsEntry e = (e.1 ≢ empty_cell) × (e.0 < CELLS)
