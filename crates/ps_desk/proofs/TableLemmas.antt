-- The table of a rectangle, written from a copy of its cells.
use Rattle.std.proofs.Common.{◌≡◌, ◌+◌, ◌<◌, ℕ, true, List, [], map, ap, ◌∙◌, arith, inl, inr, Result, Ok, Err}
use Rattle.std.specs.Global.{Vec}
use Rattle.std.specs.Prelude.{IfErr, IfOk, slice_index_or}
use Rattle.std.specs.List.{range_with_len}
use Rattle.std.proofs.lemmas.List.FromFn.{fill_by_all, get_or-map-range_with_len}
use Rattle.std.proofs.lemmas.List.FromFn.{length-map-range_with_len}
use Rattle.std.proofs.lemmas.Nat.{div-mul-add, mod-mul-add}
use Rattle.ps_grid.specs.declared.refusal.Refusal.{Refusal}
use Rattle.ps_grid.specs.declared.refusal.Refusal.TheVariants.{Memory}
use Rattle.ps_grid.specs.declared.size.TheConstants.{CELLS, COLUMNS}
use Rattle.ps_grid.specs.Rectangle.{Area, LiesInGrid, cell_within, is_inside}
use Rattle.ps_grid.proofs.AreaLemmas.{inside_of, is_inside-below}
use Rattle.ps_value.specs.Shown.{shown_text}
use Rattle.ps_value.specs.declared.value.Value.{Value}
use Rattle.ps_value.specs.declared.value.Value.TheVariants.{Empty}
use Rattle.ps_eval.specs.Items.{Assignment}
use Rattle.ps_delta.specs.Deltas.{Entries}
use Rattle.ps_content.specs.Content.{canonical_text}
use Rattle.ps_csv.specs.Exports.{CellTexts, Holdings, entry_text, exported, exported_entries, row_record, row_records}
use Rattle.ps_csv.specs.Exports.{table_text}
use Rattle.ps_face.specs.Legal.{IsLegal, Shows, history_of}
use Rattle.ps_face.specs.Values.{in_order}
use Rattle.ps_face.proofs.Orders.{get-listed}
use Rattle.ps_lines.specs.Commands.{with_part}
use Rattle.ps_lines.specs.Replies.{refusal_text, rows_text}
use Rattle.ps_desk.specs.Copies.{SameIn}
use Rattle.ps_desk.specs.Passes.{PassView}
use Rattle.ps_desk.specs.Seats.{Tabled}

-- functions that agree below n give one list
map_same : {X : Type 0} (f g : ℕ → List X) (n : ℕ) → ((k : ℕ) → k < n → f k ≡ g k)
    → map f (range_with_len 0 n) ≡ map g (range_with_len 0 n)
map_same f g n same =
    fill_by_all g (map f (range_with_len 0 n)) n [] (length-map-range_with_len f 0 n)
    (λ k below. get_or-map-range_with_len f 0 n k k [] below (omega arith) ∙ same k below)

-- the table of a rectangle looks at the rectangle's cells alone
module _ (t u : CellTexts) (a : Area) (in_grid : LiesInGrid a) (same : SameIn a t u) where
  inside_at : (j k : ℕ) → j < a.width → k < a.height → is_inside a (cell_within a j k) ≡ true
  inside_at j k across down =
      let wide = in_grid.within_columns in
      let column = mod-mul-add (a.top + k) COLUMNS (a.left + j) (omega arith) in
      let row = div-mul-add (a.top + k) COLUMNS (a.left + j) (omega arith) in
      inside_of a (cell_within a j k) (record {
        right_of = omega (arith, column);
        left_of = omega (arith, column, across);
        below = omega (arith, row);
        above = omega (arith, row, down);
      })

  record_same : (k : ℕ) → k < a.height → row_record t a k ≡ row_record u a k
  unfolding row_record
  record_same k down =
      map_same (λ j. t (cell_within a j k)) (λ j. u (cell_within a j k)) a.width
      (λ j across. same (cell_within a j k) (inside_at j k across down))

  table_same : table_text (row_records t a) ≡ table_text (row_records u a)
  unfolding row_records
  table_same = ap table_text (map_same (row_record t a) (row_record u a) a.height record_same)

-- so two assignments that agree in the rectangle give the same table
exported_same : (v w : Assignment) (a : Area) → LiesInGrid a → SameIn a v w → exported v a ≡ exported w a
exported_same v w a in_grid same =
    table_same (λ c. shown_text (v c)) (λ c. shown_text (w c)) a in_grid (λ c inside. ap shown_text (same c inside))

pub entries_same : (f g : Holdings) (a : Area) → LiesInGrid a → SameIn a f g
    → exported_entries f a ≡ exported_entries g a
entries_same f g a in_grid same =
    table_same (entry_text f) (entry_text g) a in_grid (λ c inside. ap canonical_text (same c inside))

-- an assignment w that agrees in the rectangle with the listed values of v gives the table of v
pub table_of_values : (v w : Assignment) (values : List Value) (a : Area) → LiesInGrid a → values ≡ in_order v
    → SameIn a w (λ c. slice_index_or values c Empty) → exported w a ≡ exported v a
table_of_values v w values a in_grid is same =
    exported_same w v a in_grid
    (λ c inside. same c inside ∙ ap (λ (vs : List Value). slice_index_or vs c Empty) is
    ∙ get-listed v CELLS c Empty (is_inside-below a c in_grid inside))

-- what `Pass::table` promises, if `values` are the values after the list `new.list`, and the table is that of an
-- assignment w that agrees with them in the rectangle
pub tabled : (h : List Entries) (old new : PassView) (a : Area) (values : List Value) (w : Assignment)
    (made : Result (Vec ℕ) Refusal)
    → LiesInGrid a → IsLegal h new.list → Shows (history_of h new.list) values
    → SameIn a w (λ c. slice_index_or values c Empty)
    → IfOk made (λ t. t.items ≡ exported w a) → IfErr made (λ e. e ≡ Memory)
    → new.appended ≡ old.appended → new.enters ≡ old.enters + 1
    → Tabled h old a (with_part (λ text. text.items) made) new
tabled h old new a values w (Ok t) in_grid legal shows same text memory counted entered =
    inl (inl (record {
      legal = legal;
      values = shows.0;
      settled = shows.1;
      replied = ap (rows_text a.height) (text ∙ table_of_values shows.0 w values a in_grid shows.2 same);
      counted = counted;
      entered = entered;
    }))
tabled h old new a values w (Err e) in_grid legal shows same text memory counted entered =
    inr (record { some = tt; replied = ap refusal_text memory; counted = counted })
