-- Which spans a formula puts into the columns, and takes out of them.
use Rattle.std.specs.Prelude.{◌≡◌, ℕ, ◌+◌, ◌*◌, ◌<◌, ◌≤◌, Bool, true, false, ◌&&◌, ◌==◌, nat_lt, nat_le, cond, Option}
use Rattle.std.specs.Prelude.{None, Some, List}
use Rattle.ps_grid.specs.Rectangle.{Area}
use Rattle.ps_grid.specs.declared.size.TheConstants.{COLUMNS, ROWS}
use Rattle.ps_formula.specs.Tree.{Tree}
use Rattle.ps_index.specs.declared.runs.TheConstants.{STRIDE, PLACES}
use Rattle.ps_index.specs.declared.span.Span.{Span}
use Rattle.ps_index.specs.Inside.Columns.{IsSpan}
use Rattle.ps_index.specs.Inside.Places.{covered}
use Rattle.ps_index.specs.Spans.{count_of, same_span}
use Rattle.ps_index.specs.Stands.{is_run, refers_row, spans_of}

-- whether one of the rectangles has the row y of column k
unfoldable pub covered_row : List Area → ℕ → ℕ → Bool
covered_row rects k y = nat_le 1 y && nat_le y ROWS && covered rects (k * STRIDE + y)

-- whether a span of the cell c is a run of rows of the rectangles in column k, and ends before the place `stop`
unfoldable pub due : List Area → ℕ → ℕ → ℕ → Span → Bool
due rects c stop k s = (s.cell == c) && is_run (covered_row rects k) s.from s.to && nat_lt (k * STRIDE + s.to) stop

abbrev pub one_if : Bool → ℕ
one_if b = cond b 1 0

-- each column of `after` has the spans of `columns`, and once more those that are due before the place `stop`
abbrev pub WithDue : List Area → ℕ → ℕ → List (List Span) → List (List Span) → Type 0
WithDue rects c stop columns after = (k : ℕ) (s : Span) → k < COLUMNS
    → count_of s (spans_of after k) ≡ count_of s (spans_of columns k) + one_if (due rects c stop k s)

-- the next span of a cell from a place on: the run of places from `from` up to `end`, in column k
pub record IsNextSpan (rects : List Area) (place c from end k : ℕ) (x : Span) : Type 0 where
  pub forward : place < from
  pub none_before : (q : ℕ) → place ≤ q → q < from → covered rects q ≡ false
  pub some : from < end
  pub top : end ≤ PLACES
  pub all_before : (q : ℕ) → from ≤ q → q < end → covered rects q ≡ true
  pub after : covered rects end ≡ false
  pub in_grid : k < COLUMNS
  pub span : IsSpan x
  pub step : (j : ℕ) (s : Span) → one_if (due rects c end j s) ≡ one_if (due rects c place j s) + one_if
      ((j == k) && same_span s x)

-- 1 if the span is a run of rows of column k that a formula of the cell c refers to, or else 0
abbrev pub part : ℕ → Option Tree → ℕ → Span → ℕ
part c None k s = 0
part c (Some t) k s = one_if ((s.cell == c) && is_run (refers_row t k) s.from s.to)

-- each column of `after` has the spans of `columns`, and once more those of a formula of the cell c, if there is one
abbrev pub WithFormula : ℕ → Option Tree → List (List Span) → List (List Span) → Type 0
WithFormula c o columns after = (k : ℕ) (s : Span) → k < COLUMNS
    → count_of s (spans_of after k) ≡ count_of s (spans_of columns k) + part c o k s
