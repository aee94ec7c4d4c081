-- The first fault of a run of the table, and of a rectangle row by row.
use Rattle.std.proofs.Common.{◌≡◌, ℕ, zero, suc, ◌+◌, ◌*◌, ◌/◌, ◌<◌, ◌≤◌, List, [], ◌∷◌, ◌++◌, flat_map}
use Rattle.std.proofs.Common.{true, false, Bool, not, length, is_some, None, Some, Option, get_or, refl, ap, sym, ◌∙◌}
use Rattle.std.proofs.Common.{arith, subst, ⊎_elim, append-nil}
use Rattle.std.specs.List.{range_with_len}
use Rattle.std.specs.Option.{option_or}
use Rattle.std.proofs.lemmas.Bool.{cases_lt}
use Rattle.std.proofs.lemmas.List.Concat.{flat_map-append}
use Rattle.ps_grid.specs.Rectangle.{Area, LiesInGrid, cell_within}
use Rattle.ps_value.specs.declared.value.Fault.{Fault}
use Rattle.ps_eval.specs.Number.{Number}
use Rattle.ps_eval.specs.Items.{Assignment, cell_items, first_fault, range_items}
use Rattle.ps_eval.proofs.SummaryLemmas.{first_fault-append}
use Rattle.ps_shown.specs.declared.kept.Kept.{Kept}
use Rattle.ps_shown.specs.declared.kept.Kept.TheVariants.{Empty}
use Rattle.ps_shown.specs.declared.blocks.TheConstants.{BLOCK}
use Rattle.ps_shown.specs.Blocks.{block_items, items_between}
use Rattle.ps_shown.specs.Faults.{IsFirstFault, fault_kept}
use Rattle.ps_shown.specs.Kept.{value_of}
use Rattle.ps_shown.specs.Shown.{LieBelow, place_of, shown_at}
use Rattle.ps_shown.proofs.BlockLemmas.{block_parts, in_block}
use Rattle.ps_shown.proofs.Columns.{ranges-append, rows_are}
use Rattle.ps_shown.proofs.RunLemmas.{kept_within}

-- ---- one or the other

or_some : (x y : Option Fault) → is_some x ≡ true → option_or x y ≡ x
or_some None y some = absurd (let e : false ≡ true = some in cc)
or_some (Some fault) y some = refl

or_first : (x y : Option Fault) → option_or x y ≡ None → x ≡ None
or_first None y none = refl
or_first (Some fault) y none = none

or_second : (x y : Option Fault) → option_or x y ≡ None → y ≡ None
or_second None y none = none
or_second (Some fault) y none = absurd (let e : Some fault ≡ None = none in cc)

-- ---- the faults of a block

-- where a block's items have no fault, none is kept at its places
pub clean_block : (kept : List Kept) (b p : ℕ) → first_fault (block_items kept b) ≡ None
    → b * BLOCK ≤ p → p < b * BLOCK + BLOCK → fault_kept kept p ≡ None
clean_block kept b p none low high =
    let here = in_block b p low high in
    let front = items_between kept (p / BLOCK * BLOCK) p in
    let cell = cell_items (value_of (get_or kept p Empty)) in
    let back = items_between kept (p + 1) (p / BLOCK * BLOCK + BLOCK) in
    let all = sym (ap first_fault (block_parts kept p) ∙ first_fault-append (front ++ cell) back
    ∙ ap (λ x. option_or x (first_fault back)) (first_fault-append front cell))
    ∙ ap (λ n. first_fault (block_items kept n)) here ∙ none in
    or_second (first_fault front) (first_fault cell)
    (or_first (option_or (first_fault front) (first_fault cell)) (first_fault back) all)

none_is : (x : Option Fault) → is_some x ≡ false → x ≡ None
none_is None h = refl
none_is (Some fault) h = absurd (let e : true ≡ false = h in cc)

-- what says that there is none
pub none_there : (b : Bool) (x : Option Fault) → not b ≡ true → b ≡ is_some x → x ≡ None
none_there b None free is = refl
none_there false (Some fault) free is = absurd (let e : false ≡ true = is in cc)
none_there true (Some fault) free is = absurd (let e : false ≡ true = free in cc)

-- one place more where none is kept
pub one_more_clean : (kept : List Kept) (p r : ℕ) (x : Option Fault)
    → ((j : ℕ) → p ≤ j → j < r → fault_kept kept j ≡ None) → x ≡ fault_kept kept r → is_some x ≡ false
    → (j : ℕ) → p ≤ j → j < r + 1 → fault_kept kept j ≡ None
one_more_clean kept p r x clean is none j low high =
    ⊎_elim
    (λ (before : j < r). clean j low before)
    (λ (here : r ≤ j).
    let there : j ≡ r = omega (arith, here, high) in
    ap (fault_kept kept) there ∙ sym is ∙ none_is x none)
    (cases_lt j r)

-- where a search goes on
pub clean_on : (kept : List Kept) (p q e r : ℕ) → ((j : ℕ) → p ≤ j → j < q → fault_kept kept j ≡ None)
    → IsFirstFault kept q e r → (j : ℕ) → p ≤ j → j < r → fault_kept kept j ≡ None
clean_on kept p q e r clean found j low high =
    ⊎_elim
    (λ (before : j < q). clean j low before)
    (λ (after : q ≤ j). found.clean j after high)
    (cases_lt j q)

-- ---- the first fault of a list of rows

none_in : (e : ℕ → List Number) (k n : ℕ) → ((i : ℕ) → k ≤ i → i < k + n → first_fault (e i) ≡ None)
    → first_fault (flat_map e (range_with_len k n)) ≡ None
none_in e k zero clean = refl
none_in e k (suc n) clean =
    first_fault-append (e k) (flat_map e (range_with_len (k + 1) n))
    ∙ ap (λ x. option_or x (first_fault (flat_map e (range_with_len (k + 1) n)))) (clean k (omega arith) (omega arith))
    ∙ none_in e (k + 1) n (λ i low high. clean i (omega arith) (omega arith))

leads : (e : ℕ → List Number) (k n j : ℕ) → k ≤ j → j < k + n
    → ((i : ℕ) → k ≤ i → i < j → first_fault (e i) ≡ None) → is_some (first_fault (e j)) ≡ true
    → first_fault (flat_map e (range_with_len k n)) ≡ first_fault (e j)
leads e k zero j low high clean some = absurd (omega (arith, low, high))
leads e k (suc n) j low high clean some =
    let rest = flat_map e (range_with_len (k + 1) n) in
    ⊎_elim
    (λ (later : k < j).
    first_fault-append (e k) rest
    ∙ ap (λ x. option_or x (first_fault rest)) (clean k (omega arith) later)
    ∙ leads e (k + 1) n j (omega (arith, later)) (omega (arith, high))
    (λ i least below. clean i (omega (arith, least)) below) some)
    (λ (past : j ≤ k).
    let here : k ≡ j = omega (arith, low, past) in
    first_fault-append (e k) rest
    ∙ or_some (first_fault (e k)) (first_fault rest) (ap (λ i. is_some (first_fault (e i))) here ∙ some)
    ∙ ap (λ i. first_fault (e i)) here)
    (cases_lt k j)

-- ---- the columns of a rectangle

-- the items of the first n cells of a row
abbrev pub row_items : Assignment → Area → ℕ → ℕ → List Number
row_items v a n y = flat_map (λ x. cell_items (v (cell_within a x y))) (range_with_len 0 n)

-- what is found in the first n columns: above this row none of them has a fault, and there is the first one
pub record FoundSoFar (v : Assignment) (a : Area) (n rows : ℕ) (first : Option Fault) : Type 0 where
  pub within : rows ≤ a.height
  pub clean : (y : ℕ) → y < rows → first_fault (row_items v a n y) ≡ None
  pub whole : rows ≡ a.height → first ≡ None
  pub here : rows < a.height → first ≡ first_fault (row_items v a n rows)
  pub there : rows < a.height → is_some first ≡ true

row_more : (v : Assignment) (a : Area) (n y : ℕ)
    → first_fault (row_items v a (n + 1) y)
    ≡ option_or (first_fault (row_items v a n y)) (first_fault (cell_items (v (cell_within a n y))))
row_more v a n y =
    let here : 0 + n ≡ n = omega arith in
    let e = λ (x : ℕ). cell_items (v (cell_within a x y)) in
    ap (λ js. first_fault (flat_map e js)) (ranges-append 0 n 1)
    ∙ ap first_fault (flat_map-append e (range_with_len 0 n) ((0 + n) ∷ []))
    ∙ ap (λ m. first_fault (row_items v a n y ++ (e m ++ []))) here
    ∙ ap (λ ns. first_fault (row_items v a n y ++ ns)) (append-nil (e n))
    ∙ first_fault-append (row_items v a n y) (e n)

pub found_in_none : (v : Assignment) (a : Area) → FoundSoFar v a 0 a.height None
found_in_none v a = record {
  within = omega arith;
  clean = λ y low. refl;
  whole = λ is. refl;
  here = λ less. absurd (omega (arith, less));
  there = λ less. absurd (omega (arith, less));
}

clean_row : (v : Assignment) (a : Area) (n rows y : ℕ) (first : Option Fault) → FoundSoFar v a n rows first → y < rows
    → first_fault (cell_items (v (cell_within a n y))) ≡ None → first_fault (row_items v a (n + 1) y) ≡ None
clean_row v a n rows y first so_far low none =
    row_more v a n y
    ∙ ap (λ x. option_or x (first_fault (cell_items (v (cell_within a n y))))) (so_far.clean y low) ∙ none

-- a column without a fault above that row
pub found_no_more : (v : Assignment) (a : Area) (n rows : ℕ) (first : Option Fault) → FoundSoFar v a n rows first
    → ((y : ℕ) → y < rows → first_fault (cell_items (v (cell_within a n y))) ≡ None)
    → FoundSoFar v a (n + 1) rows first
found_no_more v a n rows first so_far none = record {
  within = so_far.within;
  clean = λ y low. clean_row v a n rows y first so_far low (none y low);
  whole = so_far.whole;
  here = λ less.
      so_far.here less
      ∙ sym (row_more v a n rows
      ∙ or_some (first_fault (row_items v a n rows)) (first_fault (cell_items (v (cell_within a n rows))))
      (ap is_some (sym (so_far.here less)) ∙ so_far.there less));
  there = so_far.there;
}

-- a column whose first fault lies above it
pub found_above : (v : Assignment) (a : Area) (n rows r : ℕ) (first x : Option Fault) → FoundSoFar v a n rows first
    → r < rows → ((y : ℕ) → y < r → first_fault (cell_items (v (cell_within a n y))) ≡ None)
    → x ≡ first_fault (cell_items (v (cell_within a n r))) → is_some x ≡ true
    → FoundSoFar v a (n + 1) r x
found_above v a n rows r first x so_far less none is some = record {
  within = omega (arith, less, so_far.within);
  clean = λ y low. clean_row v a n rows y first so_far (omega (arith, low, less)) (none y low);
  whole = λ all. absurd (omega (arith, all, less, so_far.within));
  here = λ below.
      is
      ∙ sym (row_more v a n r
      ∙ ap (λ y. option_or y (first_fault (cell_items (v (cell_within a n r))))) (so_far.clean r less));
  there = λ below. some;
}

-- what is found in all columns
pub found_in_all : (v : Assignment) (a : Area) (rows : ℕ) (first : Option Fault) → LiesInGrid a
    → FoundSoFar v a a.width rows first → first ≡ first_fault (range_items v a)
found_in_all v a rows first g so_far =
    let e = row_items v a a.width in
    ⊎_elim
    (λ (less : rows < a.height).
    so_far.here less
    ∙ sym (ap first_fault (rows_are v a g)
    ∙ leads e 0 a.height rows (omega arith) (omega (arith, less)) (λ i low high. so_far.clean i high)
    (ap is_some (sym (so_far.here less)) ∙ so_far.there less)))
    (λ (past : a.height ≤ rows).
    so_far.whole (omega (arith, past, so_far.within))
    ∙ sym (ap first_fault (rows_are v a g)
    ∙ none_in e 0 a.height (λ i low high. so_far.clean i (omega (arith, high, past)))))
    (cases_lt rows a.height)

-- the first place of a column's run that keeps a fault, and the cells above it
pub column_clean : (kept : List Kept) (a : Area) (across to r j : ℕ) → LiesInGrid a → across < a.width
    → IsFirstFault kept (place_of (cell_within a across 0)) to r → j < a.height
    → place_of (cell_within a across 0) + j < r
    → first_fault (cell_items (shown_at kept (cell_within a across j))) ≡ None
column_clean kept a across to r j g left found low above =
    ap (λ x. first_fault (cell_items x)) (sym (kept_within kept a across j g left low))
    ∙ found.clean (place_of (cell_within a across 0) + j) (omega arith) above

-- and the cell at that place
pub column_fault : (kept : List Kept) (a : Area) (across j r : ℕ) → LiesInGrid a → across < a.width → j < a.height
    → place_of (cell_within a across 0) + j ≡ r
    → fault_kept kept r ≡ first_fault (cell_items (shown_at kept (cell_within a across j)))
column_fault kept a across j r g left low is =
    ap (fault_kept kept) (sym is) ∙ ap (λ x. first_fault (cell_items x)) (kept_within kept a across j g left low)

-- nothing lies below the rows of an area that doesn't reach further
pub none_below : (a : Area) → LiesInGrid a → LieBelow a 0
none_below a g = record {
  within = (let rows = g.within_rows in omega (arith, rows));
  past = λ k less. absurd (omega (arith, less));
}
