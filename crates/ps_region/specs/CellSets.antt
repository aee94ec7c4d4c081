-- Sets of cells, seen as tables that say for each cell whether it is in the set.
use Rattle.std.specs.Prelude.{ℕ, Bool, false, List, slice_index_or}

-- a cell outside the grid is in no set
abbrev pub has_cell : List Bool → ℕ → Bool
has_cell set c = slice_index_or set c false
