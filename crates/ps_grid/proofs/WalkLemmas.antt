-- A walk of a rectangle, from each cell to the next.
use Rattle.std.proofs.Common.{◌≡◌, ◌≢◌, ℕ, suc, ◌+◌, ◌-◌, ◌*◌, ◌/◌, ◌%◌, ◌<◌, ◌≤◌, ◌⊎◌, ⊎_elim, inl, inr}
use Rattle.std.proofs.Common.{map, sym, ap, subst, ◌∙◌, arith}
use Rattle.std.specs.List.{range_with_len}
use Rattle.std.proofs.lemmas.Bool.{cases_lt}
use Rattle.std.proofs.lemmas.Nat.{div-mul-add, mod-mul-add, div-add-mod', mod_below}
use Rattle.ps_grid.specs.declared.size.TheConstants.{COLUMNS}
use Rattle.ps_grid.specs.Rectangle.{Area, area, nth_cell, cells_of}
use Rattle.ps_grid.specs.Inside.Walking.{IsAt, last_cells}

-- one more: the remainder is one more, or begins again
pub next_rest : (n m : ℕ) → 0 < m →
    ((suc n % m ≡ n % m + 1) × (suc n / m ≡ n / m)) ⊎ ((n % m + 1 ≡ m) × (suc n % m ≡ 0) × (suc n / m ≡ n / m + 1))
next_rest n m h =
    let whole = div-add-mod' n m in
    let below = mod_below n m h in
    ⊎_elim
    (λ (lt : n % m + 1 < m). let e : suc n ≡ n / m * m + (n % m + 1) = omega (arith, whole) in
    inl (
      ap (λ k. k % m) e ∙ mod-mul-add (n / m) m (n % m + 1) lt,
      ap (λ k. k / m) e
          ∙ div-mul-add (n / m) m (n % m + 1) lt,
    ))
    (λ (ge : m ≤ n % m + 1). let e : suc n ≡ (n / m + 1) * m + 0 = omega (arith, whole) in
    inr (
      omega arith,
      ap (λ k. k % m) e ∙ mod-mul-add (n / m + 1) m 0 h,
      ap (λ k. k / m) e
          ∙ div-mul-add (n / m + 1) m 0 h,
    ))
    (cases_lt (n % m + 1) m)

-- one further in the row
pub along_row : (a : Area) (left next across : ℕ) → IsAt a left next across → 0 < left → across + 1 ≢ a.width
    → IsAt a (left - 1) (next + 1) (across + 1)
along_row a left next across at some more =
    let within = at.within in
    let row = at.row in
    let index = at.index in
    let passed : area a - (left - 1) ≡ suc (area a - left) = omega arith in
    ⊎_elim
    (λ r. let rest = r.0 in let whole = r.1 in record {
      in_grid = at.in_grid;
      within = omega arith;
      index = subst (λ k. next + 1 ≡ nth_cell a k) (sym passed) (omega (arith, index, rest, whole));
      row = subst (λ k. across + 1 ≡ k % a.width) (sym passed) (omega (arith, row, rest));
    })
    (λ r. absurd (more (let full = r.0 in omega (arith, row, full))))
    (next_rest (area a - left) a.width at.in_grid.some_width)

-- from the end of a row to the front of the next
pub to_next_row : (a : Area) (left next across : ℕ) → IsAt a left next across → 0 < left → across + 1 ≡ a.width
    → IsAt a (left - 1) (next + 1 + (COLUMNS - a.width)) 0
to_next_row a left next across at some full =
    let within = at.within in
    let row = at.row in
    let index = at.index in
    let fits = at.in_grid.within_columns in
    let passed : area a - (left - 1) ≡ suc (area a - left) = omega arith in
    ⊎_elim
    (λ r. absurd (let rest = r.0 in
    let below = mod_below (suc (area a - left)) a.width at.in_grid.some_width in
    omega (arith, row, rest, below)))
    (λ r. let rest = r.1 in let whole = r.2 in record {
      in_grid = at.in_grid;
      within = omega arith;
      index = subst (λ k. next + 1 + (COLUMNS - a.width) ≡ nth_cell a k) (sym passed)
          (omega (arith, index, row, rest, whole));
      row = subst (λ k. 0 ≡ k % a.width) (sym passed) (sym rest);
    })
    (next_rest (area a - left) a.width at.in_grid.some_width)

-- a walk begins at the first of its cells
pub last_cells-all : (a : Area) → last_cells a (area a) ≡ cells_of a
last_cells-all a =
    let none : area a - area a ≡ 0 = omega arith in
    ap (λ k. map (nth_cell a) (range_with_len k (area a))) none
