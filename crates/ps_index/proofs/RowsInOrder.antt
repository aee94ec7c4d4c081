-- A walk goes through the cells that refer to a row whose spans stand together, in order.
use Rattle.std.proofs.Common.{◌≡◌, ℕ, ◌+◌, ◌-◌, ◌<◌, ◌≤◌, inl, inr, sym, ap, ◌∙◌, arith, true, List, [], ◌∷◌}
use Rattle.std.proofs.Common.{length, get_or}
use Rattle.std.proofs.lemmas.Bool.{cases_lt}
use Rattle.ps_grid.specs.declared.size.TheConstants.{CELLS, ROWS}
use Rattle.ps_index.specs.declared.nodes.TheConstants.{LEVELS}
use Rattle.ps_index.specs.declared.span.Span.{Span}
use Rattle.ps_index.proofs.BoolTests.{never_true}
use Rattle.ps_index.proofs.CellsPassing.{cells_from-end, cells_from-first, cells_from-none}
use Rattle.ps_index.proofs.ColumnsSorted.{by_cell_within, ends_rise}
use Rattle.ps_index.proofs.SoleCells.{having_within, within_having}
use Rattle.ps_index.proofs.SpansCounted.{refers_at-some, refers_at-true}
use Rattle.ps_index.specs.Inside.Columns.{IsColumn}
use Rattle.ps_index.specs.Inside.Walks.{IsRowWalk}
use Rattle.ps_index.specs.Spans.{cell_of, cells_from, holds, refers_at}

no_span : Span
no_span = record { from = 0; to = 0; cell = 0 }

-- the walk of a row where no span has more rows than one, at its beginning
pub row_start : (spans : List Span) (column : List ℕ) (y : ℕ) → IsColumn spans column LEVELS → 1 ≤ y → y ≤ ROWS
    → IsRowWalk spans y (get_or column (y - 1) 0) (get_or column y 0) 0
row_start spans column y col some small = record {
  ordered = ends_rise spans column LEVELS col (y - 1) y no_span (omega arith) small;
  within = col.within y small;
  has_row = λ (i : ℕ) (d : Span) (from : get_or column (y - 1) 0 ≤ i) (to : i < get_or column y 0).
      within_having spans column col y some small i d from to;
  by_cell = λ (i j : ℕ) (d : Span) (from : get_or column (y - 1) 0 ≤ i) (le : i ≤ j) (to : j < get_or column y 0).
      by_cell_within spans column LEVELS col y some small i j d from le to;
  whole = λ (i : ℕ) (d : Span) (within : i < length spans) (has : holds (get_or spans i d) y ≡ true)
      (le : 0 ≤ cell_of spans i d). having_within spans column col y some small i d within has;
  in_grid = λ (i : ℕ) (d : Span) (within : i < length spans). (col.each i d within).in_grid;
}

-- a walk that has passed over the spans before a place, whose cells came already
module _ (spans : List Span) (y place end least stop : ℕ) (walk : IsRowWalk spans y place end least)
    (from : place ≤ stop) (to : stop ≤ end)
    (gone : (i : ℕ) (d : Span) → place ≤ i → i < stop → cell_of spans i d < least) where
  -- what is still to come is from that place on
  left_over : (i : ℕ) (d : Span) → i < length spans → holds (get_or spans i d) y ≡ true → least ≤ cell_of spans i d
      → (stop ≤ i) × (i < end)
  left_over i d within has le =
      let run = walk.whole i d within has le in (
        elim (cases_lt i stop) [
          | inl lt ↦ absurd (let low : cell_of spans i d < least = gone i d run.0 lt in omega arith)
          | inr ge ↦ ge
        ],
        run.1,
      )

  -- it is at its end
  pub row_end : stop ≡ end → cells_from (refers_at spans y) least CELLS ≡ []
  row_end done = elim (cases_lt least CELLS) [
    | inr ge ↦ cells_from-end (refers_at spans y) least CELLS ge
    | inl lt ↦ cells_from-none (refers_at spans y) least CELLS (omega arith)
        (λ (q : ℕ) (low : least ≤ q) (high : q < CELLS). never_true (refers_at spans y q)
        (λ (h : refers_at spans y q ≡ true).
        let found = refers_at-some spans y q h in
        let cell : cell_of spans found.0 no_span ≡ q = (found.2 no_span).1 in
        let run = left_over found.0 no_span found.1 (found.2 no_span).0 (omega arith) in
        omega (arith, run.0, run.1)))
  ]

  -- it gives the cell of the next span
  module _ (x : ℕ) (more : stop < end) (at : (d : Span) → cell_of spans stop d ≡ x) (new : least ≤ x) where
    within : stop < length spans
    within = omega (arith, walk.within)

    pub row_first : cells_from (refers_at spans y) least CELLS ≡ x ∷ cells_from (refers_at spans y) (x + 1) CELLS
    row_first =
        cells_from-first (refers_at spans y) least CELLS x new
        (omega (arith, at no_span, walk.in_grid stop no_span within))
        (refers_at-true spans y x stop within (λ (d : Span). (walk.has_row stop d from more, at d)))
        (λ (q : ℕ) (low : least ≤ q) (high : q < x). never_true (refers_at spans y q)
        (λ (h : refers_at spans y q ≡ true).
        let found = refers_at-some spans y q h in
        let cell : cell_of spans found.0 no_span ≡ q = (found.2 no_span).1 in
        let run = left_over found.0 no_span found.1 (found.2 no_span).0 (omega arith) in
        let order : cell_of spans stop no_span ≤ cell_of spans found.0 no_span =
        walk.by_cell stop found.0 no_span from run.0 run.1 in
        omega (arith, at no_span)))

    pub row_goes : IsRowWalk spans y (stop + 1) end (x + 1)
    row_goes = record {
      ordered = omega arith;
      within = walk.within;
      has_row = λ (i : ℕ) (d : Span) (lo : stop + 1 ≤ i) (hi : i < end). walk.has_row i d (omega arith) hi;
      by_cell = λ (i j : ℕ) (d : Span) (lo : stop + 1 ≤ i) (le : i ≤ j) (hi : j < end).
          walk.by_cell i j d (omega arith) le hi;
      whole = λ (i : ℕ) (d : Span) (inside : i < length spans) (has : holds (get_or spans i d) y ≡ true)
          (le : x + 1 ≤ cell_of spans i d).
          let run = left_over i d inside has (omega arith) in (
            elim (cases_lt stop i) [
              | inl lt ↦ omega arith
              | inr ge ↦ absurd (let same : stop ≡ i = omega (arith, run.0) in
                  let cell : cell_of spans i d ≡ x = ap (λ j. cell_of spans j d) (sym same) ∙ at d in omega arith)
            ],
            run.1,
          );
      in_grid = walk.in_grid;
    }
