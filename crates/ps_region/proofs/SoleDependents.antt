-- The sole dependents that are noted.
use Rattle.std.proofs.Common.{◌≡◌, ◌≢◌, ℕ, ◌+◌, ◌-◌, ◌*◌, ◌/◌, ◌%◌, ◌<◌, ◌≤◌, false, List, [], ◌∷◌, ◌++◌, length}
use Rattle.std.proofs.Common.{sym, inl, inr}
use Rattle.std.proofs.Common.{ap, ◌∙◌, arith, ⊎_elim, eqb, subst, get_or}
use Rattle.std.proofs.lemmas.Bool.{cases_eq, cases_lt}
use Rattle.std.proofs.lemmas.List.{get_or_append_left}
use Rattle.std.proofs.lemmas.Map.Keys.{apart_from_distinct}
use Rattle.std.specs.List.{IsDistinct}
use Rattle.ps_grid.specs.Chains.{In}
use Rattle.ps_grid.specs.declared.size.TheConstants.{CELLS}
use Rattle.ps_region.specs.Inside.Cells.{HasSole, with_all}
use Rattle.ps_region.specs.declared.noted.TheConstants.{FIRSTS}
use Rattle.ps_region.proofs.CellListLemmas.{with_all-prefix, place_of}

-- one more cell
pub sole_more : (cells : List ℕ) (n n' e : ℕ) → HasSole cells n → e < CELLS → (n ≡ CELLS → n' ≡ e)
    → (n < FIRSTS → n' ≡ CELLS + 2 + n * CELLS + e) → (n ≢ CELLS → FIRSTS ≤ n → n' ≡ CELLS + 1)
    → HasSole (cells ++ e ∷ []) n'
sole_more cells n n' e is low first second more = elim (cases_lt n FIRSTS) [
  | inl lt ↦ (let at : n' ≡ CELLS + 2 + n * CELLS + e = second lt in record {
    one = λ (few : n' < CELLS). absurd (omega arith);
    none = λ (s : n' ≡ CELLS). absurd (omega arith);
    two = λ (many : CELLS + 1 < n').
        let a : (n' - (CELLS + 2)) / CELLS ≡ n = omega arith in
        let b : (n' - (CELLS + 2)) % CELLS ≡ e = omega arith in
        rw (a, b) (ap (λ xs. xs ++ e ∷ []) (is.one (omega arith)));
  })
  | inr ge ↦ elim (cases_eq n CELLS) [
    | inl same ↦ (let at : n' ≡ e = first same in record {
      one = λ (lt : n' < CELLS). ap (λ xs. xs ++ e ∷ []) (is.none same) ∙ ap (λ x. x ∷ []) (sym at);
      none = λ (s : n' ≡ CELLS). absurd (omega arith);
      two = λ (many : CELLS + 1 < n'). absurd (omega arith);
    })
    | inr other ↦ (let at : n' ≡ CELLS + 1 = more other ge in record {
      one = λ (lt : n' < CELLS). absurd (omega arith);
      none = λ (s : n' ≡ CELLS). absurd (omega arith);
      two = λ (many : CELLS + 1 < n'). absurd (omega arith);
    })
  ]
]

-- what is noted of each member that was walked, after one more
pub soles_step : (P : ℕ → ℕ → Type 0) (members deps sole sole2 : List ℕ) (head : ℕ) → head < length members
    → IsDistinct eqb members
    → P (get_or members head 0) (get_or sole2 (get_or members head 0) 0)
    → ((c : ℕ) → eqb c (get_or members head 0) ≡ false → get_or sole2 c 0 ≡ get_or sole c 0)
    → ((p : ℕ) → p < head → P (get_or members p 0) (get_or sole (get_or members p 0) 0))
    → (p : ℕ) → p < head + 1
    → P (get_or (with_all members deps) p 0) (get_or sole2 (get_or (with_all members deps) p 0) 0)
soles_step P members deps sole sole2 head lt once here others before p le =
    let more = with_all-prefix members deps in
    let same : get_or (with_all members deps) p 0 ≡ get_or members p 0 =
    ap (λ xs. get_or xs p 0) more.1 ∙ get_or_append_left members more.0 0 p (omega arith) in
    subst (λ m. P m (get_or sole2 m 0)) (sym same)
    (⊎_elim
    (λ (old : p < head). subst (λ n. P (get_or members p 0) n)
    (sym (others (get_or members p 0) (apart_from_distinct eqb members p head 0 once old lt))) (before p old))
    (λ now. let is : p ≡ head = omega arith in
    subst (λ j. P (get_or members j 0) (get_or sole2 (get_or members j 0) 0)) (sym is) here)
    (cases_lt p head))

pub soles_end : (P : ℕ → ℕ → Type 0) (members sole : List ℕ) (head : ℕ) → length members ≤ head
    → ((p : ℕ) → p < head → P (get_or members p 0) (get_or sole (get_or members p 0) 0))
    → (m : ℕ) → In members m → P m (get_or sole m 0)
soles_end P members sole head le all m i =
    let p = place_of members m i in
    subst (λ x. P x (get_or sole x 0)) p.2 (all p.0 (let lt = p.1 in omega arith))

-- what is noted where no cell is listed, and where one is
pub sole_nobody : (cells : List ℕ) (n : ℕ) → [] ≡ cells → n ≡ CELLS → HasSole cells n
sole_nobody cells n is at = record {
  one = λ (lt : n < CELLS). absurd (omega arith);
  none = λ (s : n ≡ CELLS). sym is;
  two = λ (many : CELLS + 1 < n). absurd (omega arith);
}

pub sole_one : (cells : List ℕ) (n e : ℕ) → e ∷ [] ≡ cells → n ≡ e → e < CELLS → HasSole cells n
sole_one cells n e is at small = record {
  one = λ (lt : n < CELLS). sym is ∙ ap (λ x. x ∷ []) (sym at);
  none = λ (s : n ≡ CELLS). absurd (omega arith);
  two = λ (many : CELLS + 1 < n). absurd (omega arith);
}
