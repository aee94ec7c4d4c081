-- How a walk goes through the spans of a column that may have a row.
use Rattle.std.specs.Prelude.{◌≡◌, ℕ, ◌+◌, ◌-◌, ◌<◌, ◌≤◌, ◌⊎◌, true, List, [], ◌∷◌, length, get_or, min}
use Rattle.ps_grid.specs.declared.size.TheConstants.{CELLS, ROWS}
use Rattle.ps_index.specs.declared.span.Span.{Span}
use Rattle.ps_index.specs.Inside.Nodes.{node_of, rounded}
use Rattle.ps_index.specs.Spans.{cell_of, cells_from, holds, refers_at}

-- a row that may store spans with row y: y itself, or a row above it in the tree, of a level from `lowest` on and below
-- `above`
abbrev pub IsLooked : ℕ → ℕ → ℕ → ℕ → Type 0
IsLooked lowest above y key = (key ≡ y)
    ⊎ ((k : ℕ) × (lowest ≤ k) × (k < above) × (key ≡ node_of y k) × (rounded y k < y))

-- each run has the spans stored at some row, and each row that is looked at and stores any has a run
pub record IsRuns (column : List ℕ) (Looked : ℕ → Type 0) (starts ends : List ℕ) (runs : ℕ) : Type 0 where
  pub few : runs ≤ 11
  pub sound : (r : ℕ) → r < runs → (key : ℕ) × (1 ≤ key) × (key ≤ ROWS)
      × (get_or starts r 0 ≡ get_or column (key - 1) 0)
      × (get_or ends r 0 ≡ get_or column key 0)
  pub complete : (key : ℕ) → Looked key → key ≤ ROWS → get_or column (key - 1) 0 < get_or column key 0
      → (r : ℕ) × (r < runs) × (get_or starts r 0 ≡ get_or column (key - 1) 0)
      × (get_or ends r 0 ≡ get_or column key 0)

-- a walk of the cells from `least` on with a span that has row y: of run r, the spans at the places from `starts r` up
-- to `ends r` are still to come
pub record IsWalk (spans : List Span) (y : ℕ) (starts ends : List ℕ) (runs least : ℕ) : Type 0 where
  pub few : runs ≤ 11
  pub rising : (r : ℕ) → r < runs → get_or starts r 0 ≤ get_or ends r 0
  pub within : (r : ℕ) → r < runs → get_or ends r 0 ≤ length spans
  pub by_cell : (r i j : ℕ) (d : Span) → r < runs → get_or starts r 0 ≤ i → i ≤ j → j < get_or ends r 0
      → cell_of spans i d ≤ cell_of spans j d
  pub whole : (i : ℕ) (d : Span) → i < length spans → holds (get_or spans i d) y ≡ true
      → least ≤ cell_of spans i d
      → (r : ℕ) × (r < runs) × (get_or starts r 0 ≤ i) × (i < get_or ends r 0)
  pub in_grid : (i : ℕ) (d : Span) → i < length spans → cell_of spans i d < CELLS

-- a walk whose runs before `run` are each at a span that has row y and a cell from `least` on, and the least such cell
pub record IsHead (spans : List Span) (y : ℕ) (starts ends : List ℕ) (runs least run first : ℕ) : Type 0 where
  pub walk : IsWalk spans y starts ends runs least
  pub lowest : (r : ℕ) (d : Span) → r < run → get_or starts r 0 < get_or ends r 0
      → first ≤ cell_of spans (get_or starts r 0) d
  pub there : (first ≡ CELLS) ⊎ ((i : ℕ) × (i < length spans)
      × ((d : Span) → (holds (get_or spans i d) y ≡ true) × (cell_of spans i d ≡ first) × (least ≤ first)))

-- a walk whose next cell is found already, CELLS if there is none
pub record IsAhead (spans : List Span) (y : ℕ) (starts ends : List ℕ) (runs next : ℕ) : Type 0 where
  pub later : IsWalk spans y starts ends runs (next + 1)
  pub found : (next ≡ CELLS) ⊎ ((next < CELLS) × (refers_at spans y next ≡ true))

-- a walk that is at its first cell from `least` on, CELLS if there is none
pub record IsMoved (spans : List Span) (y : ℕ) (starts ends : List ℕ) (runs least next : ℕ) : Type 0 where
  pub ahead : IsAhead spans y starts ends runs next
  pub none_passed : cells_from (refers_at spans y) least CELLS ≡ cells_from (refers_at spans y) next CELLS

-- a walk of the cells from `least` on with a span that has row y: the spans that are to come are those from `place` up
-- to `end`, and all have the row
pub record IsRowWalk (spans : List Span) (y place end least : ℕ) : Type 0 where
  pub ordered : place ≤ end
  pub within : end ≤ length spans
  pub has_row : (i : ℕ) (d : Span) → place ≤ i → i < end → holds (get_or spans i d) y ≡ true
  pub by_cell : (i j : ℕ) (d : Span) → place ≤ i → i ≤ j → j < end → cell_of spans i d ≤ cell_of spans j d
  pub whole : (i : ℕ) (d : Span) → i < length spans → holds (get_or spans i d) y ≡ true
      → least ≤ cell_of spans i d
      → (place ≤ i) × (i < end)
  pub in_grid : (i : ℕ) (d : Span) → i < length spans → cell_of spans i d < CELLS

-- a place in a run of spans that ends at `end`, and the cell of its span, which has row y; at the end, the cell is
-- CELLS
pub record IsAt (spans : List Span) (y place «end» cell : ℕ) : Type 0 where
  pub small : cell ≤ CELLS
  pub none : «end» ≤ place → cell ≡ CELLS
  pub is : place < «end» → (d : Span) → cell_of spans place d ≡ cell
  pub has_row : place < «end» → (d : Span) → holds (get_or spans place d) y ≡ true

-- where a run comes to from a place on: past the spans that don't have row y, and those of cells below `least`
pub record IsOn (spans : List Span) (y least start «end» place cell : ℕ) : Type 0 where
  pub from : start ≤ place
  pub to : place ≤ «end»
  pub passed : (i : ℕ) (d : Span) → start ≤ i → i < place → holds (get_or spans i d) y ≡ true
      → cell_of spans i d < least
  pub at : IsAt spans y place «end» cell
  pub later : least ≤ cell

-- a walk of the cells with a span that has row y, by two runs that are each at such a span
pub record AreHeads (spans : List Span) (y own own_end own_cell upper upper_end upper_cell : ℕ) : Type 0 where
  pub walk : IsWalk spans y (own ∷ upper ∷ []) (own_end ∷ upper_end ∷ []) 2 (min own_cell upper_cell)
  pub own_at : IsAt spans y own own_end own_cell
  pub upper_at : IsAt spans y upper upper_end upper_cell
