-- The cells that an index lists for a cell.
use Rattle.std.specs.Prelude.{ℕ, List}
use Rattle.ps_grid.specs.Place.{column_of, row_of}
use Rattle.ps_grid.specs.declared.size.TheConstants.{CELLS}
use Rattle.ps_index.specs.Spans.{cells_from, refers_at}
use Rattle.ps_index.specs.Stands.{spans_of}
use Rattle.ps_index.specs.declared.span.Span.{Span}

-- the cells that `Index::dependents` yields
unfoldable pub listed : List (List Span) → ℕ → List ℕ
listed index d = cells_from (refers_at (spans_of index (column_of d)) (row_of d)) 0 CELLS
