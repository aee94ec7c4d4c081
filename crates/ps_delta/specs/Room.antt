-- Room for a list of cells.
use Rattle.std.specs.Prelude.{◌<◌, ◌≤◌, ℕ, Vec, vec_capacity}
use Rattle.std.specs.List.{All}
use Rattle.std.specs.List.Sorted.{IsStrictlyIncreasing}
use Rattle.ps_grid.specs.declared.size.TheConstants.{CELLS}

-- cells of the grid in order, with room for all cells
pub record HasRoom {Z : Type 0} (cells : Vec ℕ Z) : Type 0 where
  pub in_grid : All (λ c. c < CELLS) cells.items
  pub ascending : IsStrictlyIncreasing cells.items
  pub room : CELLS ≤ vec_capacity cells
