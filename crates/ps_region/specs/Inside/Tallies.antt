-- The counts of a set of cells: of the whole set, and of its cells in each block, which is `HIGH` rows of one column.
use Rattle.std.specs.Prelude.{◌≡◌, ◌+◌, ◌*◌, ◌/◌, ◌%◌, ◌<◌, ℕ, Bool, ◌&&◌, List, length, nat_eq, slice_index}
use Rattle.ps_grid.specs.declared.size.TheConstants.{CELLS, COLUMNS}
use Rattle.ps_region.specs.CellSets.{has_cell}
use Rattle.ps_region.specs.Inside.Counts.{count_below}
use Rattle.ps_region.specs.declared.cell_set.TheConstants.{BLOCKS, HIGH}

-- the number of a cell's block: column by column, each column from its first rows on
abbrev pub block_of : ℕ → ℕ
block_of c = c % COLUMNS * BLOCKS + c / COLUMNS / HIGH

-- `cells` marks the set, `all` counts its cells, and `blocks` counts those in each block
pub record IsTallied (cells : List Bool) (blocks : List ℕ) (all : ℕ) : Type 0 where
  pub whole : length cells ≡ CELLS
  pub divided : length blocks ≡ COLUMNS * BLOCKS
  pub together : all ≡ count_below (λ d. has_cell cells d) CELLS
  pub each : (b : ℕ) → b < COLUMNS * BLOCKS
      → slice_index blocks b ≡ count_below (λ d. has_cell cells d && nat_eq (block_of d) b) CELLS
