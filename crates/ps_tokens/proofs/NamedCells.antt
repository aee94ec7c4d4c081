-- The cell that letters and digits name.
use Rattle.std.proofs.Common.{◌≡◌, ℕ, ◌+◌, ◌<◌, ◌≤◌, ◌↔◌, ◌&&◌, ◌++◌, Bool, true, false, cond}
use Rattle.std.proofs.Common.{⊎_elim, arith, refl, zero}
use Rattle.std.proofs.Common.{List, Option, Some, None, suc, sym, ap, ◌∙◌}
use Rattle.std.specs.Fmt.{decimal}
use Rattle.std.specs.List.{find, range_with_len}
use Rattle.std.specs.Str.{bytes_eq}
use Rattle.std.proofs.lemmas.Bool.{and_from, and_parts, cases_eq}
use Rattle.std.proofs.lemmas.Slice.Eq.{bytes_eq-Decides}
use Rattle.ps_grid.specs.Place.{column_name, column_of, row_of}
use Rattle.ps_grid.specs.declared.size.TheConstants.{CELLS}
use Rattle.ps_grid.proofs.NameLemmas.{cell_name-injective}
use Rattle.ps_tokens.specs.Inside.Lexing.{cell_below, cell_in}

-- what is found passes the test, and is one of the numbers
found_passes : (p : ℕ → Bool) (n k c : ℕ) → find p (range_with_len k n) ≡ Some c → (p c ≡ true) × (c < k + n)
found_passes p zero k c e = cc
found_passes p (suc n) k c e =
    elim (p k) as (λ b. p k ≡ b → cond b (Some k) (find p (range_with_len (k + 1) n)) ≡ Some c
    → (p c ≡ true) × (c < k + suc n)) [
      | true ↦ λ is found. let same : k ≡ c = cc in (ap p (sym same) ∙ is, omega arith)
      | false ↦ λ is found.
          let later = found_passes p n (k + 1) c found in
          let below = later.1 in (later.0, omega arith)
    ] refl e

-- where a number passes the test, some number is found
found_some : (p : ℕ → Bool) (n k c : ℕ) → p c ≡ true → k ≤ c → c < k + n
    → (d : ℕ) × (find p (range_with_len k n) ≡ Some d)
found_some p zero k c passes low high = absurd (omega arith)
found_some p (suc n) k c passes low high =
    elim (p k) as (λ b. p k ≡ b → (d : ℕ) × (cond b (Some k) (find p (range_with_len (k + 1) n)) ≡ Some d)) [
      | true ↦ λ is. (k, refl)
      | false ↦ λ is. ⊎_elim
          (λ (same : k ≡ c). absurd (let f : false ≡ true = sym is ∙ ap p same ∙ passes in cc))
          (λ other. found_some p n (k + 1) c passes (omega arith) (omega arith))
          (cases_eq k c)
    ] refl

both_same : (xs ys : List ℕ) → (bytes_eq xs xs && bytes_eq ys ys) ≡ true
both_same xs ys =
    and_from (bytes_eq xs xs) (bytes_eq ys ys) ((bytes_eq-Decides xs xs).1 refl) ((bytes_eq-Decides ys ys).1 refl)

-- what is found has the name
cell_below-some : (n : ℕ) (letters digits : List ℕ) (c : ℕ) → cell_below n letters digits ≡ Some c
    → (letters ≡ column_name (column_of c)) × (digits ≡ decimal (row_of c)) × (c < n)
unfolding cell_below
cell_below-some n letters digits c e =
    let found = found_passes _ n 0 c e in
    let both = and_parts _ _ found.0 in
    let below = found.1 in
    ((bytes_eq-Decides _ _).0 both.0, (bytes_eq-Decides _ _).0 both.1, omega arith)

pub cell_in-some : (letters digits : List ℕ) (c : ℕ) → cell_in letters digits ≡ Some c
    → (letters ≡ column_name (column_of c)) × (digits ≡ decimal (row_of c)) × (c < CELLS)
unfolding cell_in
cell_in-some letters digits c e = cell_below-some CELLS letters digits c e

-- a cell of the grid is found by its name, which no other has
cell_below-name : (n c : ℕ) → n ≤ CELLS → c < n
    → cell_below n (column_name (column_of c)) (decimal (row_of c)) ≡ Some c
unfolding cell_below
cell_below-name n c within below =
    let some = found_some (λ d. bytes_eq (column_name (column_of c)) (column_name (column_of d))
    && bytes_eq (decimal (row_of c)) (decimal (row_of d))) n 0 c
    (both_same (column_name (column_of c)) (decimal (row_of c)))
    (omega arith) (omega arith) in
    let named = cell_below-some n (column_name (column_of c)) (decimal (row_of c)) some.0 some.1 in
    let under = named.2 in
    let same = cell_name-injective c some.0 (omega arith) (omega arith) (λ i. named.0 i ++ named.1 i) in
    some.1 ∙ ap Some (sym same)

pub cell_in-name : (c : ℕ) → c < CELLS → cell_in (column_name (column_of c)) (decimal (row_of c)) ≡ Some c
unfolding cell_in
cell_in-name c below = cell_below-name CELLS c (omega arith) below

-- an option that has the named cell, if the grid has it, is the one that is found
pub named_is : (o : Option ℕ) (letters digits : List ℕ)
    → ((c : ℕ) → (o ≡ Some c) ↔ ((c < CELLS) × (letters ≡ column_name (column_of c)) × (digits ≡ decimal (row_of c))))
    → o ≡ cell_in letters digits
named_is (Some c) letters digits h =
    let named = (h c).0 refl in
    sym ((λ i. cell_in (named.1 i) (named.2 i)) ∙ cell_in-name c named.0)
named_is None letters digits h =
    elim (cell_in letters digits) as (λ p. cell_in letters digits ≡ p → None ≡ p) [
      | Some c ↦ λ e. let named = cell_in-some letters digits c e in (h c).1 (named.2, named.0, named.1)
      | None ↦ λ e. refl
    ] refl
