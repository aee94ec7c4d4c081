-- How a column stores its spans.
use Rattle.std.specs.Prelude.{◌≡◌, ℕ, ◌+◌, ◌<◌, ◌≤◌, ◌⊎◌, Bool, false, nat_lt, nat_le, nat_eq, List, length, get_or}
use Rattle.ps_grid.specs.declared.size.TheConstants.{CELLS, ROWS}
use Rattle.ps_index.specs.declared.span.Span.{Span}
use Rattle.ps_index.specs.Inside.Nodes.{key_of, rounded}
use Rattle.ps_index.specs.declared.nodes.TheConstants.{LEVELS}
use Rattle.ps_index.specs.Spans.{cell_of, refers_at}

-- the span has one row at least, and none outside the grid; its cell is in the grid
pub record IsSpan (s : Span) : Type 0 where
  pub first : 1 ≤ s.from
  pub ordered : s.from ≤ s.to
  pub in_rows : s.to ≤ ROWS
  pub in_grid : s.cell < CELLS

-- the row at which a span is stored
abbrev pub key_at : List Span → ℕ → Span → ℕ
key_at spans i d = key_of (get_or spans i d).from (get_or spans i d).to

-- the span has one row, or is stored at a row of this level or a higher one: a row that 2 divides so many times
abbrev pub IsFromLevel : ℕ → Span → Type 0
IsFromLevel level s = (s.from ≡ s.to) ⊎ (rounded (key_of s.from s.to) level ≡ key_of s.from s.to)

-- the span has one row, or is stored at a row below this level: one that 2 doesn't divide so many times
abbrev pub IsBelowLevel : ℕ → Span → Type 0
IsBelowLevel level s = (s.from ≡ s.to) ⊎ (rounded (key_of s.from s.to) level < key_of s.from s.to)

-- the spans are sorted by the rows at which they are stored, and then by their cells; `ends j` counts those stored up
-- to row j; spans of several rows are stored at the level `lowest` or higher ones
pub record IsColumn (spans : List Span) (ends : List ℕ) (lowest : ℕ) : Type 0 where
  pub size : length ends ≡ ROWS + 1
  pub within : (j : ℕ) → j ≤ ROWS → get_or ends j 0 ≤ length spans
  pub placed : (i j : ℕ) (d : Span) → i < length spans → j ≤ ROWS
      → nat_le (key_at spans i d) j ≡ nat_lt i (get_or ends j 0)
  pub by_cell : (i j : ℕ) (d : Span) → i ≤ j → j < length spans → key_at spans i d ≡ key_at spans j d
      → cell_of spans i d ≤ cell_of spans j d
  pub each : (i : ℕ) (d : Span) → i < length spans → IsSpan (get_or spans i d)
  pub ranges : (i : ℕ) (d : Span) → i < length spans → IsFromLevel lowest (get_or spans i d)

-- the spans of several rows are stored at rows below a level
pub record AreBelow (spans : List Span) (above : ℕ) : Type 0 where
  pub levels : above ≤ LEVELS
  pub ranges : (i : ℕ) (d : Span) → i < length spans → IsBelowLevel above (get_or spans i d)

-- n is the one cell that passes a test; if n is CELLS, no cell passes; if n is greater, it says nothing
pub record IsSole (test : ℕ → Bool) (n : ℕ) : Type 0 where
  pub none : n ≡ CELLS → (c : ℕ) → test c ≡ false
  pub one : n < CELLS → (c : ℕ) → test c ≡ nat_eq c n

-- for each row the one cell with a span there; it is noted only while no span ever had several rows
pub record HasSoles (spans : List Span) (sole : List ℕ) (lowest : ℕ) : Type 0 where
  pub size : length sole ≡ ROWS + 1
  pub noted : lowest ≡ LEVELS → (y : ℕ) → 1 ≤ y → y ≤ ROWS → IsSole (refers_at spans y) (get_or sole y 0)
