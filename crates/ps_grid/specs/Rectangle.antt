-- Rectangles of cells, seen as their corner at the top left and their size.
use Rattle.std.specs.Prelude.{ℕ, ◌+◌, ◌-◌, ◌*◌, ◌/◌, ◌%◌, ◌≤◌, Bool, ◌&&◌, nat_lt, nat_le, min, max, List, map}
use Rattle.std.specs.List.{range_with_len}
use Rattle.ps_grid.specs.declared.size.TheConstants.{COLUMNS, ROWS}

-- the column of the left side, from 0; the row of the upper side, from 0; how many columns; how many rows
pub record Area : Type 0 where
  pub left : ℕ
  pub top : ℕ
  pub width : ℕ
  pub height : ℕ

-- at least one cell, and none outside the grid
pub record LiesInGrid (a : Area) : Type 0 where
  pub some_width : 1 ≤ a.width
  pub some_height : 1 ≤ a.height
  pub within_columns : a.left + a.width ≤ COLUMNS
  pub within_rows : a.top + a.height ≤ ROWS

-- how many cells
abbrev pub area : Area → ℕ
area a = a.width * a.height

-- the cell this many columns to the right of the first cell, and this many rows below it
abbrev pub cell_within : Area → ℕ → ℕ → ℕ
cell_within a across down = (a.top + down) * COLUMNS + (a.left + across)

-- the k-th cell, from 0, row by row
abbrev pub nth_cell : Area → ℕ → ℕ
nth_cell a k = cell_within a (k % a.width) (k / a.width)

-- the cells of a rectangle, row by row
abbrev pub cells_of : Area → List ℕ
cells_of a = map (nth_cell a) (range_with_len 0 (area a))

-- the position of a cell in `cells_of`, from 0
abbrev pub place_of : Area → ℕ → ℕ
place_of a c = (c / COLUMNS - a.top) * a.width + (c % COLUMNS - a.left)

-- whether a cell lies in the rectangle, by its column and its row
abbrev pub is_inside : Area → ℕ → Bool
is_inside a c = nat_le a.left (c % COLUMNS) && nat_lt (c % COLUMNS) (a.left + a.width)
    && nat_le a.top (c / COLUMNS) && nat_lt (c / COLUMNS) (a.top + a.height)

-- the cell at the top left, and the one at the bottom right
abbrev pub first_cell : Area → ℕ
first_cell a = a.top * COLUMNS + a.left

abbrev pub last_cell : Area → ℕ
last_cell a = (a.top + a.height - 1) * COLUMNS + (a.left + a.width - 1)

-- the smallest rectangle that contains both cells
abbrev pub spanned : ℕ → ℕ → Area
spanned c d = record {
  left = min (c % COLUMNS) (d % COLUMNS);
  top = min (c / COLUMNS) (d / COLUMNS);
  width = max (c % COLUMNS) (d % COLUMNS) - min (c % COLUMNS) (d % COLUMNS) + 1;
  height = max (c / COLUMNS) (d / COLUMNS) - min (c / COLUMNS) (d / COLUMNS) + 1;
}
