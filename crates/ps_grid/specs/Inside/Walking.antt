-- The position of an iterator over a rectangle.
use Rattle.std.specs.Prelude.{◌≡◌, ℕ, ◌-◌, ◌%◌, ◌≤◌, List, map}
use Rattle.std.specs.List.{range_with_len}
use Rattle.ps_grid.specs.Rectangle.{Area, LiesInGrid, area, nth_cell}

-- the last `left` cells of a rectangle, row by row
abbrev pub last_cells : Area → ℕ → List ℕ
last_cells a left = map (nth_cell a) (range_with_len (area a - left) left)

-- `left` cells are still to come, the next of them has the index `next`, and `across` cells of its row come before it
pub record IsAt (a : Area) (left next across : ℕ) : Type 0 where
  pub in_grid : LiesInGrid a
  pub within : left ≤ area a
  pub index : next ≡ nth_cell a (area a - left)
  pub row : across ≡ (area a - left) % a.width
