-- The cells of a rectangle, by their number and by their column and row.
use Rattle.std.proofs.Common.{◌≡◌, ◌≢◌, ℕ, suc, zero, ◌+◌, ◌-◌, ◌*◌, ◌/◌, ◌%◌, ◌<◌, ◌≤◌, true, false}
use Rattle.std.proofs.Common.{List, ◌∷◌, length, map, refl, sym, ap, ◌∙◌, arith, ⊎_elim, eqb}
use Rattle.std.proofs.Common.{subst}
use Rattle.std.proofs.lemmas.Grind.{common_steps}
use Rattle.std.proofs.lemmas.Nat.{div-mul-add, mod-mul-add, mul-add-lt, mod_below, div-add-mod', rows}
use Rattle.std.proofs.Math.Nat.{mul-le-mul_left, mul-le-mul_right}
use Rattle.std.proofs.lemmas.Bool.{cases_eq, cond-true}
use Rattle.std.proofs.lemmas.List.FromFn.{length-map-range_with_len}
use Rattle.std.proofs.lemmas.Map.Keys.{IsDistinct-cons}
use Rattle.std.specs.List.{filter, list_any, range_with_len, IsDistinct}
use Rattle.ps_grid.specs.declared.size.TheConstants.{COLUMNS, CELLS, ROWS}
use Rattle.ps_grid.specs.Chains.{In}
use Rattle.ps_grid.specs.Rectangle.{Area, area, nth_cell, cells_of, place_of, is_inside, LiesInGrid}
use Rattle.ps_grid.proofs.ChainLemmas.{apart, bool_cases, In-self, In-more, In-cases}

-- a cell lies in the rectangle by its column and its row
pub record Spans (a : Area) (c : ℕ) : Type 0 where
  pub right_of : a.left ≤ c % COLUMNS
  pub left_of : c % COLUMNS < a.left + a.width
  pub below : a.top ≤ c / COLUMNS
  pub above : c / COLUMNS < a.top + a.height

pub spans_of : (a : Area) (c : ℕ) → is_inside a c ≡ true → Spans a c
spans_of a c h = record {
  right_of = grind (arith, common_steps);
  left_of = grind (arith, common_steps);
  below = grind (arith, common_steps);
  above = grind (arith, common_steps);
}

pub inside_of : (a : Area) (c : ℕ) → Spans a c → is_inside a c ≡ true
inside_of a c s =
    let p = s.right_of in
    let q = s.left_of in
    let u = s.below in
    let v = s.above in
    grind (arith, common_steps)

-- the k-th cell has its column and its row
column-nth_cell : (a : Area) (k : ℕ) → LiesInGrid a → k < area a → nth_cell a k % COLUMNS ≡ a.left + k % a.width
column-nth_cell a k g h =
    let w = g.within_columns in
    let m = mod_below k a.width g.some_width in
    mod-mul-add (a.top + k / a.width) COLUMNS (a.left + k % a.width) (omega arith)

row-nth_cell : (a : Area) (k : ℕ) → LiesInGrid a → k < area a → nth_cell a k / COLUMNS ≡ a.top + k / a.width
row-nth_cell a k g h =
    let w = g.within_columns in
    let m = mod_below k a.width g.some_width in
    div-mul-add (a.top + k / a.width) COLUMNS (a.left + k % a.width) (omega arith)

row_below : (a : Area) (k : ℕ) → LiesInGrid a → k < area a → k / a.width < a.height
row_below a k g h = grind (arith, common_steps, rows)

-- each of its cells lies in the rectangle
pub is_inside-nth_cell : (a : Area) (k : ℕ) → LiesInGrid a → k < area a → is_inside a (nth_cell a k) ≡ true
is_inside-nth_cell a k g h =
    let m = mod_below k a.width g.some_width in
    let r = row_below a k g h in
    let column = column-nth_cell a k g h in
    let row = row-nth_cell a k g h in
    inside_of a (nth_cell a k) (record {
      right_of = omega (arith, column);
      left_of = omega (arith, column, m);
      below = omega (arith, row);
      above = omega (arith, row, r);
    })

-- each of its cells is a cell of the grid
pub is_inside-below : (a : Area) (c : ℕ) → LiesInGrid a → is_inside a c ≡ true → c < CELLS
is_inside-below a c g h =
    let s = spans_of a c h in
    let u = s.above in
    let w = g.within_rows in
    omega arith

-- a cell in the rectangle has a number there
pub place_of-below : (a : Area) (c : ℕ) → is_inside a c ≡ true → place_of a c < area a
place_of-below a c h =
    let s = spans_of a c h in
    let p = s.right_of in
    let q = s.left_of in
    let u = s.below in
    let v = s.above in
    mul-add-lt (c / COLUMNS - a.top) a.width (c % COLUMNS - a.left) a.height (omega arith) (omega arith)

pub nth_cell-place_of : (a : Area) (c : ℕ) → is_inside a c ≡ true → nth_cell a (place_of a c) ≡ c
nth_cell-place_of a c h =
    let s = spans_of a c h in
    let p = s.right_of in
    let q = s.left_of in
    let u = s.below in
    let row = div-mul-add (c / COLUMNS - a.top) a.width (c % COLUMNS - a.left) (omega arith) in
    let column = mod-mul-add (c / COLUMNS - a.top) a.width (c % COLUMNS - a.left) (omega arith) in
    omega (arith, row, column)

pub place_of-nth_cell : (a : Area) (k : ℕ) → LiesInGrid a → k < area a → place_of a (nth_cell a k) ≡ k
place_of-nth_cell a k g h =
    let column = column-nth_cell a k g h in
    let row = row-nth_cell a k g h in
    let across : nth_cell a k % COLUMNS - a.left ≡ k % a.width = omega (arith, column) in
    let down : nth_cell a k / COLUMNS - a.top ≡ k / a.width = omega (arith, row) in
    (λ i. down i * a.width + across i) ∙ div-add-mod' k a.width

-- no two numbers give one cell
pub nth_cell-injective : (a : Area) (j k : ℕ) → LiesInGrid a → j < area a → k < area a
    → nth_cell a j ≡ nth_cell a k → j ≡ k
nth_cell-injective a j k g p q same =
    sym (place_of-nth_cell a j g p) ∙ ap (place_of a) same ∙ place_of-nth_cell a k g q

-- among the n cells from the k-th on are those of the numbers from k on
In-from_number : (a : Area) (n k j : ℕ) → k ≤ j → j < k + n → In (map (nth_cell a) (range_with_len k n)) (nth_cell a j)
In-from_number a zero k j low high = absurd (omega arith)
In-from_number a (suc n) k j low high =
    ⊎_elim
    (λ e. subst (λ q. In (nth_cell a k ∷ map (nth_cell a) (range_with_len (k + 1) n)) (nth_cell a q)) e
    (In-self (nth_cell a k) (map (nth_cell a) (range_with_len (k + 1) n))))
    (λ (ne : k ≢ j). In-more (nth_cell a j) (nth_cell a k) (map (nth_cell a) (range_with_len (k + 1) n))
    (In-from_number a n (k + 1) j (omega arith) (omega arith)))
    (cases_eq k j)

-- and those of no other numbers
number_from_In : (a : Area) (n k c : ℕ) → In (map (nth_cell a) (range_with_len k n)) c
    → (j : ℕ) × (k ≤ j) × (j < k + n) × (c ≡ nth_cell a j)
number_from_In a zero k c h = absurd (let f : false ≡ true = h in cc)
number_from_In a (suc n) k c h =
    ⊎_elim
    (λ e. (k, omega arith, omega arith, e))
    (λ i. let m = number_from_In a n (k + 1) c i in
    let low = m.1 in let high = m.2 in (m.0, omega arith, omega arith, m.3))
    (In-cases c (nth_cell a k) (map (nth_cell a) (range_with_len (k + 1) n)) h)

-- `cells_of` has exactly the cells of the rectangle
pub In-cells_of : (a : Area) (c : ℕ) → is_inside a c ≡ true → In (cells_of a) c
In-cells_of a c h =
    subst (In (cells_of a)) (nth_cell-place_of a c h)
    (In-from_number a (area a) 0 (place_of a c) (omega arith) (let b = place_of-below a c h in omega arith))

pub is_inside-In : (a : Area) (c : ℕ) → LiesInGrid a → In (cells_of a) c → is_inside a c ≡ true
is_inside-In a c g h =
    let m = number_from_In a (area a) 0 c h in
    let high = m.2 in
    subst (λ d. is_inside a d ≡ true) (sym m.3) (is_inside-nth_cell a m.0 g (omega arith))

pub list_any-cells_of : (a : Area) (c : ℕ) → LiesInGrid a → list_any (eqb c) (cells_of a) ≡ is_inside a c
list_any-cells_of a c g =
    ⊎_elim
    (λ (y : is_inside a c ≡ true). In-cells_of a c y ∙ sym y)
    (λ (n : is_inside a c ≡ false). ⊎_elim
    (λ (i : list_any (eqb c) (cells_of a) ≡ true). absurd (let y = is_inside-In a c g i in cc))
    (λ (o : list_any (eqb c) (cells_of a) ≡ false). o ∙ sym n)
    (bool_cases (list_any (eqb c) (cells_of a))))
    (bool_cases (is_inside a c))

distinct_from : (a : Area) (n k : ℕ) → LiesInGrid a → k + n ≤ area a
    → IsDistinct eqb (map (nth_cell a) (range_with_len k n))
unfolding IsDistinct
distinct_from a zero k g fits = tt
distinct_from a (suc n) k g fits =
    let rest : List ℕ = map (nth_cell a) (range_with_len (k + 1) n) in
    let outside : list_any (eqb (nth_cell a k)) rest ≡ false =
    ⊎_elim
    (λ (i : list_any (eqb (nth_cell a k)) rest ≡ true).
    let m = number_from_In a n (k + 1) (nth_cell a k) i in
    let low = m.1 in
    let high = m.2 in
    let same = nth_cell-injective a k m.0 g (omega arith) (omega arith) m.3 in
    absurd (omega arith))
    (λ o. o)
    (bool_cases (list_any (eqb (nth_cell a k)) rest)) in
    IsDistinct-cons eqb (nth_cell a k) rest (apart (nth_cell a k) rest outside)
    (distinct_from a n (k + 1) g (omega arith))

-- `cells_of` has each cell once
pub IsDistinct-cells_of : (a : Area) → LiesInGrid a → IsDistinct eqb (cells_of a)
IsDistinct-cells_of a g = distinct_from a (area a) 0 g (omega arith)

-- `cells_of` has as many cells as the area
pub length-cells_of : (a : Area) → length (cells_of a) ≡ area a
length-cells_of a = length-map-range_with_len (nth_cell a) 0 (area a)

-- the area is no more than the cells of the grid
pub area-le : (a : Area) → LiesInGrid a → area a ≤ CELLS
area-le a g =
    let columns = g.within_columns in
    let rows = g.within_rows in
    let wide : a.width ≤ COLUMNS = omega arith in
    let high : a.height ≤ ROWS = omega arith in
    grind (arith, mul-le-mul_right a.height wide, mul-le-mul_left COLUMNS high)

all_inside : (a : Area) (k n : ℕ) → LiesInGrid a → k + n ≤ area a
    → filter (is_inside a) (map (nth_cell a) (range_with_len k n)) ≡ map (nth_cell a) (range_with_len k n)
all_inside a k zero g within = refl
all_inside a k (suc n) g within =
    let rest = map (nth_cell a) (range_with_len (k + 1) n) in
    cond-true (is_inside a (nth_cell a k)) (nth_cell a k ∷ filter (is_inside a) rest)
    (filter (is_inside a) rest) (is_inside-nth_cell a k g (omega arith))
    ∙ ap (λ cs. nth_cell a k ∷ cs) (all_inside a (k + 1) n g (omega arith))

-- none of them lies outside
pub filter-cells_of : (a : Area) → LiesInGrid a → filter (is_inside a) (cells_of a) ≡ cells_of a
filter-cells_of a g = all_inside a 0 (area a) g (omega arith)
