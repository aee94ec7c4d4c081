-- Which cells of a formula's rectangles count: those of a set, outside the region, each once.
use Rattle.std.specs.Prelude.{◌+◌, ◌/◌, ◌%◌, ℕ, Bool, false, not, ◌&&◌, List, nat_eq, nat_lt, slice_index_or}
use Rattle.std.specs.List.{list_any}
use Rattle.ps_grid.specs.declared.size.TheConstants.{COLUMNS}
use Rattle.ps_grid.specs.Rectangle.{Area, is_inside}
use Rattle.ps_region.specs.CellSets.{has_cell}

-- a cell of the set outside the region
abbrev pub is_outside : List Bool → List Bool → ℕ → Bool
is_outside set marks d = has_cell set d && not (slice_index_or marks d false)

-- a cell in one of the rectangles
abbrev pub is_covered : List Area → ℕ → Bool
is_covered rects d = list_any (λ r. is_inside r d) rects

-- a cell of the set outside the region that the rectangles don't have
abbrev pub is_new : List Bool → List Bool → List Area → ℕ → Bool
is_new set marks rects d = is_outside set marks d && not (is_covered rects d)

-- a cell of the first `across` columns of a rectangle
abbrev pub in_columns : Area → ℕ → ℕ → Bool
in_columns r across d = is_inside r d && nat_lt (d % COLUMNS) (r.left + across)

-- a cell of the first `down` rows in the column `across` of a rectangle
abbrev pub in_rows : Area → ℕ → ℕ → ℕ → Bool
in_rows r across down d =
    is_inside r d && (nat_eq (d % COLUMNS) (r.left + across) && nat_lt (d / COLUMNS) (r.top + down))
