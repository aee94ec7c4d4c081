-- The items of a rectangle row by row, and column after column.
use Rattle.std.proofs.Common.{◌≡◌, ℕ, zero, suc, ◌+◌, ◌*◌, ◌/◌, ◌%◌, ◌≤◌, List, [], ◌∷◌, ◌++◌, map, flat_map}
use Rattle.std.proofs.Common.{true, false, ◌&&◌, ◌||◌, length, length-append, is_some, None, Some, Option, ◌+ℤ◌}
use Rattle.std.proofs.Common.{refl, ap, sym, ◌∙◌, arith, Bool, Err}
use Rattle.std.specs.Int.{int_max, int_min}
use Rattle.std.specs.List.{list_all, range_with_len}
use Rattle.std.specs.Option.{option_or}
use Rattle.std.proofs.lemmas.Int.{ints, clamps}
use Rattle.std.proofs.lemmas.Nat.{div-mul-add, mod-mul-add}
use Rattle.std.proofs.lemmas.List.{map-append, append-nil}
use Rattle.std.proofs.Common.{append_assoc}
use Rattle.std.proofs.lemmas.List.Concat.{flat_map-append}
use Rattle.std.proofs.lemmas.List.Folds.{list_all-append}
use Rattle.std.proofs.lemmas.List.FromFn.{length-range_with_len}
use Rattle.ps_grid.specs.declared.size.TheConstants.{CELLS, ROWS}
use Rattle.ps_grid.specs.Rectangle.{Area, LiesInGrid, area, cell_within, nth_cell}
use Rattle.ps_value.specs.declared.value.Fault.{Fault}
use Rattle.ps_eval.specs.Number.{Number, in_range}
use Rattle.ps_eval.specs.Items.{Assignment, cell_items, first_fault, numbers_in, range_items, total}
use Rattle.ps_eval.specs.Summarized.{Summarizes, lowest_of, highest_of}
use Rattle.ps_eval.specs.declared.summary.Summary.{Summary}
use Rattle.ps_eval.proofs.RangeItems.{few_numbers, fewer_items, range_items_are}
use Rattle.ps_eval.proofs.SummaryLemmas.{numbers_in-append, total-append, lowest-append, highest-append}
use Rattle.ps_eval.proofs.SummaryLemmas.{fewer_numbers, first_fault-append}
use Rattle.ps_shown.specs.Sums.{column_items, items_by_columns}

-- what is worked out of items from what it is of two parts of them, in any order
record Measure {X : Type 0} (f : List Number → X) : Type 0 where
  op : X → X → X
  both : (xs ys : List Number) → f (xs ++ ys) ≡ op (f xs) (f ys)
  crossed : (a b c d : X) → op (op a b) (op c d) ≡ op (op a c) (op b d)

module _ {X : Type 0} (f : List Number → X) (m : Measure f) where
  -- one part of each, then the other part of each
  parted : (g e : ℕ → List Number) (js : List ℕ)
      → f (flat_map (λ j. g j ++ e j) js) ≡ m.op (f (flat_map g js)) (f (flat_map e js))
  parted g e [] = m.both [] []
  parted g e (j ∷ js) =
      m.both (g j ++ e j) (flat_map (λ i. g i ++ e i) js)
      ∙ (λ i. m.op (m.both (g j) (e j) i) (parted g e js i))
      ∙ m.crossed (f (g j)) (f (e j)) (f (flat_map g js)) (f (flat_map e js))
      ∙ (λ i. m.op (sym (m.both (g j) (flat_map g js)) i) (sym (m.both (e j) (flat_map e js)) i))

  nothing : (g : ℕ → ℕ → List Number) (js : List ℕ) → flat_map (λ j. flat_map (g j) []) js ≡ []
  nothing g [] = refl
  nothing g (j ∷ js) = nothing g js

  -- rows, and columns
  turned : (g : ℕ → ℕ → List Number) (js : List ℕ) (k h : ℕ)
      → f (flat_map (λ d. flat_map (λ j. g j d) js) (range_with_len k h))
      ≡ f (flat_map (λ j. flat_map (g j) (range_with_len k h)) js)
  turned g js k zero = ap f (sym (nothing g js))
  turned g js k (suc h) =
      m.both (flat_map (λ j. g j k) js) (flat_map (λ d. flat_map (λ j. g j d) js) (range_with_len (k + 1) h))
      ∙ ap (m.op (f (flat_map (λ j. g j k) js))) (turned g js (k + 1) h)
      ∙ sym (parted (λ j. g j k) (λ j. flat_map (g j) (range_with_len (k + 1) h)) js)

-- ---- the rows of a rectangle

pub ranges-append : (a m n : ℕ) → range_with_len a (m + n) ≡ range_with_len a m ++ range_with_len (a + m) n
ranges-append a zero n =
    let none : 0 + n ≡ n = omega arith in
    let here : a ≡ a + 0 = omega arith in
    ap (range_with_len a) none ∙ ap (λ b. range_with_len b n) here
ranges-append a (suc m) n =
    let more : suc m + n ≡ suc (m + n) = omega arith in
    let moved : a + 1 + m ≡ a + suc m = omega arith in
    ap (range_with_len a) more
    ∙ ap (λ xs. a ∷ xs) (ranges-append (a + 1) m n ∙ ap (λ b. range_with_len (a + 1) m ++ range_with_len b n) moved)

module _ (a : Area) (e : ℕ → List Number) where
  row : (d j n s : ℕ) → s ≡ d * a.width + j → j + n ≤ a.width
      → flat_map e (map (nth_cell a) (range_with_len s n))
      ≡ flat_map (λ x. e (cell_within a x d)) (range_with_len j n)
  row d j zero s is fits = refl
  row d j (suc n) s is fits =
      let across : s % a.width ≡ j = ap (λ t. t % a.width) is ∙ mod-mul-add d a.width j (omega arith) in
      let down : s / a.width ≡ d = ap (λ t. t / a.width) is ∙ div-mul-add d a.width j (omega arith) in
      (λ i. e (cell_within a (across i) (down i)) ++ flat_map e (map (nth_cell a) (range_with_len (s + 1) n)))
      ∙ ap (λ xs. e (cell_within a j d) ++ xs) (row d (j + 1) n (s + 1) (omega arith) (omega arith))

  rows : (d h s t : ℕ) → s ≡ d * a.width → t ≡ a.width * h
      → flat_map e (map (nth_cell a) (range_with_len s t))
      ≡ flat_map (λ y. flat_map (λ x. e (cell_within a x y)) (range_with_len 0 a.width)) (range_with_len d h)
  rows d zero s t is size =
      let none : t ≡ 0 = omega arith in
      ap (λ n. flat_map e (map (nth_cell a) (range_with_len s n))) none
  rows d (suc h) s t is size =
      let more : t ≡ a.width + a.width * h = omega arith in
      let start : s ≡ d * a.width + 0 = omega arith in
      let next : s + a.width ≡ (d + 1) * a.width = omega arith in
      let cut = ap (range_with_len s) more ∙ ranges-append s a.width (a.width * h) in
      ap (λ xs. flat_map e (map (nth_cell a) xs)) cut
      ∙ ap (flat_map e)
      (map-append (nth_cell a) (range_with_len s a.width) (range_with_len (s + a.width) (a.width * h)))
      ∙ flat_map-append e (map (nth_cell a) (range_with_len s a.width))
      (map (nth_cell a) (range_with_len (s + a.width) (a.width * h)))
      ∙ (λ i. row d 0 a.width s start (omega arith) i
      ++ rows (d + 1) h (s + a.width) (a.width * h) next refl i)

-- the items of a range, row by row
pub rows_are : (v : Assignment) (a : Area) → LiesInGrid a
    → range_items v a
    ≡ flat_map (λ y. flat_map (λ x. cell_items (v (cell_within a x y))) (range_with_len 0 a.width))
    (range_with_len 0 a.height)
rows_are v a g = range_items_are v a g ∙ rows a (λ c. cell_items (v c)) 0 a.height 0 (area a) (omega arith) refl

same_measure : {X : Type 0} (f : List Number → X) → Measure f → (v : Assignment) (a : Area) → LiesInGrid a
    → f (range_items v a) ≡ f (items_by_columns v a a.width)
same_measure f m v a g =
    ap f (rows_are v a g)
    ∙ turned f m (λ x y. cell_items (v (cell_within a x y))) (range_with_len 0 a.width) 0 a.height

-- ---- the measures

count_measure : Measure (λ xs. length (numbers_in xs))
count_measure = record {
  op = λ a b. a + b;
  both = λ xs ys. ap length (numbers_in-append xs ys) ∙ length-append (numbers_in xs) (numbers_in ys);
  crossed = λ a b c d. omega arith;
}

total_measure : Measure (λ xs. total (numbers_in xs))
total_measure = record {
  op = λ a b. a +ℤ b;
  both = λ xs ys. ap total (numbers_in-append xs ys) ∙ total-append (numbers_in xs) (numbers_in ys);
  crossed = λ a b c d. omega (arith, ints);
}

lowest_measure : Measure (λ xs. lowest_of (numbers_in xs))
lowest_measure = record {
  op = int_min;
  both = λ xs ys. ap lowest_of (numbers_in-append xs ys) ∙ lowest-append (numbers_in xs) (numbers_in ys);
  crossed = λ a b c d. omega (arith, ints, clamps);
}

highest_measure : Measure (λ xs. highest_of (numbers_in xs))
highest_measure = record {
  op = int_max;
  both = λ xs ys. ap highest_of (numbers_in-append xs ys) ∙ highest-append (numbers_in xs) (numbers_in ys);
  crossed = λ a b c d. omega (arith, ints, clamps);
}

and_crossed : (a b c d : Bool) → ((a && b) && (c && d)) ≡ ((a && c) && (b && d))
and_crossed false b false d = refl
and_crossed false b true d = refl
and_crossed true false false d = refl
and_crossed true false true d = refl
and_crossed true true c d = refl

or_crossed : (a b c d : Bool) → ((a || b) || (c || d)) ≡ ((a || c) || (b || d))
or_crossed false b c d = or_more b c d
  where
    or_more : (b c d : Bool) → (b || (c || d)) ≡ (c || (b || d))
    or_more false c d = refl
    or_more true false d = refl
    or_more true true d = refl
or_crossed true b c d = refl

range_measure : Measure (λ xs. list_all in_range (numbers_in xs))
range_measure = record {
  op = λ a b. a && b;
  both = λ xs ys. ap (list_all in_range) (numbers_in-append xs ys)
      ∙ list_all-append in_range (numbers_in xs) (numbers_in ys);
  crossed = and_crossed;
}

some_or : (x y : Option Fault) → is_some (option_or x y) ≡ (is_some x || is_some y)
some_or None y = refl
some_or (Some fault) y = refl

fault_measure : Measure (λ xs. is_some (first_fault xs))
fault_measure = record {
  op = λ a b. a || b;
  both = λ xs ys. ap is_some (first_fault-append xs ys) ∙ some_or (first_fault xs) (first_fault ys);
  crossed = or_crossed;
}

none_is : (x : Option Fault) → is_some x ≡ false → x ≡ None
none_is None h = refl
none_is (Some fault) h = absurd (let e : true ≡ false = h in cc)

-- a summary of the items column after column fits them row by row, except for which fault is the first
turned_known : (v : Assignment) (a : Area) (s : Summary) (items : List Number) → LiesInGrid a
    → numbers_in items ≡ numbers_in (items_by_columns v a a.width)
    → Summarizes items s → first_fault items ≡ first_fault (range_items v a)
    → Summarizes (range_items v a) s
turned_known v a s items g same known alike = record {
  counted = known.counted ∙ ap length same ∙ sym (same_measure _ count_measure v a g);
  summed = known.summed ∙ ap total same ∙ sym (same_measure _ total_measure v a g);
  lowest = known.lowest ∙ ap lowest_of same ∙ sym (same_measure _ lowest_measure v a g);
  highest = known.highest ∙ ap highest_of same ∙ sym (same_measure _ highest_measure v a g);
  first = known.first ∙ alike;
  ranged = same_measure _ range_measure v a g ∙ sym (ap (list_all in_range) same) ∙ known.ranged;
}

-- where there is no fault, all of it
pub turned_summary : (v : Assignment) (a : Area) (s : Summary) → LiesInGrid a
    → Summarizes (items_by_columns v a a.width) s → is_some (first_fault (items_by_columns v a a.width)) ≡ false
    → Summarizes (range_items v a) s
turned_summary v a s g known none =
    turned_known v a s (items_by_columns v a a.width) g refl known
    (none_is (first_fault (items_by_columns v a a.width)) none
    ∙ sym (none_is (first_fault (range_items v a)) (same_measure _ fault_measure v a g ∙ none)))

-- where none is found row by row, there is none column after column
pub turned_clean : (v : Assignment) (a : Area) → LiesInGrid a → None ≡ first_fault (range_items v a)
    → is_some (first_fault (items_by_columns v a a.width)) ≡ false
turned_clean v a g none = sym (same_measure _ fault_measure v a g) ∙ ap is_some (sym none)

-- where the first fault is found row by row and comes before all items
pub turned_led : (v : Assignment) (a : Area) (s : Summary) (fault : Fault) → LiesInGrid a
    → Summarizes (Err fault ∷ items_by_columns v a a.width) s → Some fault ≡ first_fault (range_items v a)
    → Summarizes (range_items v a) s
turned_led v a s fault g known found =
    turned_known v a s (Err fault ∷ items_by_columns v a a.width) g refl known found

single_rows : (g : ℕ → List Number) (js : List ℕ) → flat_map (λ j. g j ++ []) js ≡ flat_map g js ++ []
single_rows g [] = refl
single_rows g (j ∷ js) =
    (λ i. append-nil (g j) i ++ single_rows g js i) ∙ sym (append_assoc (g j) (flat_map g js) [])

-- one column is walked in the order of rows
single_column : (v : Assignment) (a : Area) → LiesInGrid a → a.width ≡ 1
    → items_by_columns v a a.width ≡ range_items v a
single_column v a g one =
    ap (items_by_columns v a) one
    ∙ sym (single_rows (λ y. cell_items (v (cell_within a 0 y))) (range_with_len 0 a.height))
    ∙ ap (λ w. flat_map (λ y. flat_map (λ x. cell_items (v (cell_within a x y))) (range_with_len 0 w))
    (range_with_len 0 a.height)) (sym one)
    ∙ sym (rows_are v a g)

-- and has the items of the range
pub one_column : (v : Assignment) (a : Area) → LiesInGrid a → a.width ≡ 1 → column_items v a 0 ≡ range_items v a
one_column v a g one =
    sym (append-nil (column_items v a 0)) ∙ ap (items_by_columns v a) (sym one) ∙ single_column v a g one

-- one column more
pub one_more_column : (v : Assignment) (a : Area) (n : ℕ)
    → items_by_columns v a n ++ column_items v a n ≡ items_by_columns v a (n + 1)
one_more_column v a n =
    let here : n ≡ 0 + n = omega arith in
    ap (λ xs. items_by_columns v a n ++ xs) (sym (append-nil (column_items v a n)))
    ∙ ap (λ m. items_by_columns v a n ++ flat_map (column_items v a) (m ∷ [])) here
    ∙ sym (flat_map-append (column_items v a) (range_with_len 0 n) ((0 + n) ∷ []))
    ∙ ap (flat_map (column_items v a)) (sym (ranges-append 0 n 1))

-- a column has no more numbers than rows
pub few_in_column : (v : Assignment) (a : Area) (across : ℕ) → LiesInGrid a
    → length (numbers_in (column_items v a across)) ≤ ROWS
few_in_column v a across g =
    let p = fewer_numbers (column_items v a across) in
    let q = fewer_items (λ down. v (cell_within a across down)) (range_with_len 0 a.height) in
    let r = length-range_with_len 0 a.height in
    let t = g.within_rows in
    omega (arith, p, q, r, t)

-- and all columns of a range no more than the grid has cells
pub few_in_columns : (v : Assignment) (a : Area) → LiesInGrid a
    → length (numbers_in (items_by_columns v a a.width)) ≤ CELLS
few_in_columns v a g =
    let few = few_numbers v a g in
    let same = same_measure _ count_measure v a g in
    omega (arith, few, same)
