-- Runs of the table, and the items of what is kept there.
use Rattle.std.proofs.Common.{◌≡◌, ℕ, zero, suc, ◌+◌, ◌-◌, ◌*◌, ◌%◌, ◌<◌, ◌≤◌, min, List, [], ◌∷◌, ◌++◌, length}
use Rattle.std.proofs.Common.{◌⊎◌, inl, inr, length-drop}
use Rattle.std.proofs.Common.{get_or, take, drop, slice_range, flat_map, refl, ap, sym, ◌∙◌, arith, ⊎_elim, append-nil}
use Rattle.std.specs.List.{range_with_len}
use Rattle.std.proofs.lemmas.Bool.{cases_lt}
use Rattle.std.proofs.lemmas.List.{drop_more, drop_all, drop_min, take_all, take_more, get_or_past}
use Rattle.std.proofs.lemmas.List.Concat.{flat_map-append}
use Rattle.std.proofs.lemmas.Nat.{div-mul-add, mod-mul-add}
use Rattle.ps_grid.specs.declared.size.TheConstants.{CELLS, COLUMNS, ROWS}
use Rattle.ps_grid.specs.Rectangle.{Area, LiesInGrid, cell_within}
use Rattle.ps_value.specs.declared.operand.Operand.{Operand}
use Rattle.ps_value.specs.Operand.{operand_of}
use Rattle.ps_eval.specs.Items.{cell_items}
use Rattle.ps_eval.specs.Inside.Operands.{items_from, items_from-operand}
use Rattle.ps_shown.specs.declared.kept.Kept.{Kept}
use Rattle.ps_shown.specs.declared.kept.Kept.TheVariants.{Empty}
use Rattle.ps_shown.specs.declared.shown.TheConstants.{PLACES, STRIDE}
use Rattle.ps_shown.specs.Kept.{value_of}
use Rattle.ps_shown.specs.Shown.{LieBelow, place_of, shown_at}
use Rattle.ps_shown.specs.Sums.{column_items, items_kept}
use Rattle.ps_shown.proofs.PlaceLemmas.{shown_at-here}

-- one more of what is kept
pub items_kept-more : (kept : List Kept) (i : ℕ) (x : Kept) (o : Operand) → i < length kept → x ≡ get_or kept i x
    → o ≡ operand_of (value_of x)
    → items_kept (take i kept) ++ items_from o ≡ items_kept (take (i + 1) kept)
items_kept-more kept i x o within is read =
    ap (λ ns. items_kept (take i kept) ++ ns)
    (ap items_from read ∙ items_from-operand (value_of x) ∙ sym (append-nil (cell_items (value_of x))))
    ∙ sym (flat_map-append (λ k. cell_items (value_of k)) (take i kept) (x ∷ []))
    ∙ ap items_kept (sym (take_more kept i x within ∙ ap (λ y. take i kept ++ y ∷ []) (sym is)))

-- what is kept from a place on, and nothing where the table doesn't reach
pub run_items : (kept : List Kept) (p k n : ℕ)
    → items_kept (take n (drop (p + k) kept))
    ≡ flat_map (λ j. cell_items (value_of (get_or kept (p + j) Empty))) (range_with_len k n)
run_items kept p k zero = refl
run_items kept p k (suc n) =
    let next : p + k + 1 ≡ p + (k + 1) = omega arith in
    let rest = flat_map (λ j. cell_items (value_of (get_or kept (p + j) Empty))) (range_with_len (k + 1) n) in
    ⊎_elim
    (λ (within : p + k < length kept).
    ap (λ xs. items_kept (take (suc n) xs)) (drop_more kept (p + k) Empty within)
    ∙ ap (λ xs. cell_items (value_of (get_or kept (p + k) Empty)) ++ xs)
    (ap (λ q. items_kept (take n (drop q kept))) next ∙ run_items kept p (k + 1) n))
    (λ (past : length kept ≤ p + k).
    ap (λ xs. items_kept (take (suc n) xs)) (drop_all (p + k) kept past)
    ∙ sym (nothing_left n)
    ∙ ap (λ xs. items_kept (take n xs)) (sym (drop_all (p + (k + 1)) kept (omega arith)))
    ∙ run_items kept p (k + 1) n
    ∙ ap (λ x. cell_items (value_of x) ++ rest) (sym (get_or_past kept (p + k) Empty past)))
    (cases_lt (p + k) (length kept))
  where
    nothing_left : (m : ℕ) → items_kept (take m []) ≡ []
    nothing_left zero = refl
    nothing_left (suc m) = refl

-- a run that ends where the table ends
pub run_is : (kept : List Kept) (p n from to : ℕ) → from ≡ min p (length kept) → to ≡ min (p + n) (length kept)
    → slice_range kept from to ≡ take n (drop p kept)
run_is kept p n from to low high =
    let first = ap (λ q. drop q kept) low ∙ drop_min p kept in
    ap (take (to - from)) first ∙ as_long (cases_lt (length kept) (p + n))
  where
    as_long : (length kept < p + n) ⊎ (p + n ≤ length kept) → take (to - from) (drop p kept) ≡ take n (drop p kept)
    as_long (inl more) =
        let long = length-drop p kept in
        take_all (to - from) (drop p kept) (omega (arith, long)) ∙ sym (take_all n (drop p kept) (omega (arith, long)))
    as_long (inr less) =
        let same : to - from ≡ n = omega arith in
        ap (λ m. take m (drop p kept)) same

-- a cell of a column lies so far below the first one
place_within : (a : Area) (across down : ℕ) → LiesInGrid a → across < a.width → down < a.height
    → place_of (cell_within a across down) ≡ place_of (cell_within a across 0) + down
unfolding place_of
place_within a across down g left upper =
    let columns = g.within_columns in
    let c = mod-mul-add (a.top + down) COLUMNS (a.left + across) (omega arith) in
    let r = div-mul-add (a.top + down) COLUMNS (a.left + across) (omega arith) in
    let c0 = mod-mul-add (a.top + 0) COLUMNS (a.left + across) (omega arith) in
    let r0 = div-mul-add (a.top + 0) COLUMNS (a.left + across) (omega arith) in
    omega (arith, c, r, c0, r0)

within_grid : (a : Area) (across down : ℕ) → LiesInGrid a → across < a.width → down < a.height
    → cell_within a across down < CELLS
within_grid a across down g left upper =
    let columns = g.within_columns in
    let rows = g.within_rows in
    omega arith

-- the places below the rows of a column end before the table does
pub below_fits : (a : Area) (across n : ℕ) → LiesInGrid a → across < a.width → LieBelow a n
    → place_of (cell_within a across 0) + a.height + n ≤ PLACES
unfolding place_of
below_fits a across n g left below =
    let columns = g.within_columns in
    let c0 = mod-mul-add (a.top + 0) COLUMNS (a.left + across) (omega arith) in
    let r0 = div-mul-add (a.top + 0) COLUMNS (a.left + across) (omega arith) in
    omega (arith, c0, r0, columns, below.within)

-- and lie past the column's last row
pub below_rows : (a : Area) (across n p : ℕ) → LiesInGrid a → across < a.width → LieBelow a n
    → place_of (cell_within a across 0) + a.height ≤ p → p < place_of (cell_within a across 0) + a.height + n
    → ROWS ≤ p % STRIDE
unfolding place_of
below_rows a across n p g left below low high =
    let columns = g.within_columns in
    let c0 = mod-mul-add (a.top + 0) COLUMNS (a.left + across) (omega arith) in
    let r0 = div-mul-add (a.top + 0) COLUMNS (a.left + across) (omega arith) in
    let k = p - (place_of (cell_within a across 0) + a.height) in
    let less : k < n = omega (arith, low, high) in
    let is : p ≡ (a.left + across) * STRIDE + (a.top + a.height + k) = omega (arith, c0, r0, low) in
    let rest = mod-mul-add (a.left + across) STRIDE (a.top + a.height + k) (omega (arith, less, below.within)) in
    omega (arith, below.past k less, rest, ap (λ q. q % STRIDE) is)

-- what is kept so far below a column's first cell is shown there
pub kept_within : (kept : List Kept) (a : Area) (across down : ℕ) → LiesInGrid a → across < a.width → down < a.height
    → value_of (get_or kept (place_of (cell_within a across 0) + down) Empty)
    ≡ shown_at kept (cell_within a across down)
kept_within kept a across down g left upper =
    ap (λ p. value_of (get_or kept p Empty)) (sym (place_within a across down g left upper))
    ∙ sym (shown_at-here kept (cell_within a across down) (within_grid a across down g left upper))

column_from : (kept : List Kept) (a : Area) (across k n : ℕ) → LiesInGrid a → across < a.width → k + n ≤ a.height
    → flat_map (λ j. cell_items (value_of (get_or kept (place_of (cell_within a across 0) + j) Empty)))
    (range_with_len k n)
    ≡ flat_map (λ down. cell_items (shown_at kept (cell_within a across down))) (range_with_len k n)
column_from kept a across k zero g left fits = refl
column_from kept a across k (suc n) g left fits =
    (λ i. cell_items (kept_within kept a across k g left (omega arith) i)
    ++ column_from kept a across (k + 1) n g left (omega arith) i)

-- the run of a column has its items
pub column_is : (kept : List Kept) (a : Area) (across : ℕ) → LiesInGrid a → across < a.width
    → items_kept (take a.height (drop (place_of (cell_within a across 0)) kept)) ≡ column_items (shown_at kept) a across
column_is kept a across g left =
    let p = place_of (cell_within a across 0) in
    let here : p ≡ p + 0 = omega arith in
    ap (λ q. items_kept (take a.height (drop q kept))) here
    ∙ run_items kept p 0 a.height
    ∙ column_from kept a across 0 a.height g left (omega arith)
