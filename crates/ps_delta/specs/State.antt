-- A state gives each cell a register, a counter and a set. States are joined cell by cell.
use Rattle.std.specs.Prelude.{◌≡◌, ◌≢◌, ◌<◌, ◌≤◌, ℕ, ◌/◌, ◌%◌}
use Rattle.std.specs.Prelude.{◌==◌, if◌then◌else◌, List, [], length, slice_index_or, None}
use Rattle.std.specs.List.Sorted.{IsStrictlyIncreasing}
use Rattle.std.specs.FinMap as map
use Rattle.ps_grid.specs.declared.size.TheConstants.{CELLS}
use Rattle.ps_grid.specs.Chains.{In}
use Rattle.ps_lattice.specs.Register.{joined_registers}
use Rattle.ps_lattice.specs.Tally.{joined_tallies}
use Rattle.ps_lattice.specs.Choice.{joined_choices}
use Rattle.ps_content.specs.Order.{content_cmp}
use Rattle.ps_delta.specs.declared.block.TheConstants.{BLOCK}
use Rattle.ps_delta.specs.Places.{joined_places}
use Rattle.ps_delta.specs.declared.cell_state.CellState.{CellState}

-- nothing was assigned, counted or chosen
unfoldable pub empty_cell : CellState
empty_cell = record { register = None; tally = map.empty; choice = map.empty }

-- the join of the registers, of the counters and of the sets
unfoldable pub joined_cell : CellState → CellState → CellState
joined_cell s t = record {
  register = joined_registers content_cmp s.register t.register;
  tally = joined_tallies s.tally t.tally;
  choice = joined_choices s.choice t.choice;
}

-- what each cell holds
abbrev pub State : Type 0
State = ℕ → CellState

-- no cell holds anything
unfoldable pub empty_state : State
empty_state c = empty_cell

-- the join, cell by cell
unfoldable pub joined_state : State → State → State
joined_state s t c = joined_cell (s c) (t c)

-- joining s into t changes nothing
abbrev pub IsBelow : State → State → Type 0
IsBelow s t = joined_state t s ≡ t

-- the state where one cell holds x, and each other cell what it holds in s
unfoldable pub with_cell : State → ℕ → CellState → State
with_cell s cell x c = if cell == c then x else s c

-- no cell outside the grid holds anything
abbrev pub IsInGrid : State → Type 0
IsInGrid s = (c : ℕ) → CELLS ≤ c → s c ≡ empty_cell

-- cell states in blocks, row by row; a block may be short, and the cells beyond its end are empty
abbrev pub Blocks : Type 0
Blocks = List (List CellState)

-- what the cells of the blocks hold
unfoldable pub state_at : Blocks → State
state_at blocks c = slice_index_or (slice_index_or blocks (c / BLOCK) []) (c % BLOCK) empty_cell

-- the cell's block has a state for the cell
abbrev pub HasPlace : Blocks → ℕ → Type 0
HasPlace blocks c = c % BLOCK < length (slice_index_or blocks (c / BLOCK) [])

-- two blocks joined, and two lists of blocks
abbrev pub joined_cells : List CellState → List CellState → List CellState
joined_cells = joined_places joined_cell

abbrev pub joined_blocks : Blocks → Blocks → Blocks
joined_blocks = joined_places joined_cells

-- the list has exactly the cells at which two states differ, in order
pub record AreTouched (before after : State) (cells : List ℕ) : Type 0 where
  pub ascending : IsStrictlyIncreasing cells
  pub differ : (c : ℕ) → In cells c → before c ≢ after c
  pub same : (c : ℕ) → ¬ In cells c → before c ≡ after c
