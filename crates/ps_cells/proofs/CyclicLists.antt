-- Lists of cells without doubles: filters, and two of them joined.
use Rattle.std.proofs.Common.{◌≡◌, ℕ, Bool, true, false, not, ◌⊎◌, List, [], ◌∷◌, ◌++◌, refl}
use Rattle.std.proofs.Common.{sym, ap, ◌∙◌, ⊎_elim, eqb, subst}
use Rattle.std.specs.List.{list_any, filter, IsDistinct}
use Rattle.std.proofs.lemmas.Bool.{or_left, or_right, or_cases}
use Rattle.std.proofs.lemmas.List.Folds.{list_any-append}
use Rattle.std.proofs.lemmas.Map.Keys.{IsDistinct-cons, IsDistinct-head, IsDistinct-tail}
use Rattle.ps_grid.specs.Chains.{In}
use Rattle.ps_grid.proofs.ChainLemmas.{bool_cases, In-decided, In-self, In-more, In-cases, apart}
use Rattle.ps_cells.proofs.SettledValues.{true_not_false}
use Rattle.ps_cells.proofs.ListedCells.{absent}

-- a cell is left by a filter where it stood in the list and passes
pub In-filtered : (p : ℕ → Bool) (xs : List ℕ) (c : ℕ) → In (filter p xs) c → In xs c × (p c ≡ true)
In-filtered p [] c h = absurd (let f : false ≡ true = h in cc)
In-filtered p (x ∷ xs) c h =
    ⊎_elim
    (λ (on : p x ≡ true).
    let kept : In (x ∷ filter p xs) c = rw on at h in
    ⊎_elim
    (λ e. (subst (λ q. In (q ∷ xs) c) e (In-self c xs), subst (λ q. p q ≡ true) (sym e) on))
    (λ later. let r = In-filtered p xs c later in (In-more c x xs r.0, r.1))
    (In-cases c x (filter p xs) kept))
    (λ (off : p x ≡ false).
    let kept : In (filter p xs) c = rw off at h in
    let r = In-filtered p xs c kept in (In-more c x xs r.0, r.1))
    (bool_cases (p x))

pub In-filter : (p : ℕ → Bool) (xs : List ℕ) (c : ℕ) → In xs c → p c ≡ true → In (filter p xs) c
In-filter p [] c h on = absurd (let f : false ≡ true = h in cc)
In-filter p (x ∷ xs) c h on =
    ⊎_elim
    (λ (is : p x ≡ true).
    let there : In (x ∷ filter p xs) c =
    ⊎_elim
    (λ e. subst (λ q. In (q ∷ filter p xs) c) e (In-self c (filter p xs)))
    (λ later. In-more c x (filter p xs) (In-filter p xs c later on))
    (In-cases c x xs h) in
    rw is there)
    (λ (off : p x ≡ false).
    let there : In (filter p xs) c =
    ⊎_elim
    (λ e. absurd (true_not_false (p x) (subst (λ q. p q ≡ true) e on) off))
    (λ later. In-filter p xs c later on)
    (In-cases c x xs h) in
    rw off there)
    (bool_cases (p x))

-- where a cell is not in a list
outside : (c : ℕ) (xs : List ℕ) → ¬ In xs c → list_any (eqb c) xs ≡ false
outside c xs lacks = ⊎_elim (λ i. absurd (lacks i)) (λ f. f) (bool_cases (list_any (eqb c) xs))

-- one cell more that was not there
once_more : (x : ℕ) (xs : List ℕ) → ¬ In xs x → IsDistinct eqb xs → IsDistinct eqb (x ∷ xs)
once_more x xs lacks once = IsDistinct-cons eqb x xs (apart x xs (outside x xs lacks)) once

-- the first of a list without doubles is not among the others
pub first_once : (x : ℕ) (xs : List ℕ) → IsDistinct eqb (x ∷ xs) → ¬ In xs x
first_once x xs once i = true_not_false (list_any (eqb x) xs) i (absent x xs (IsDistinct-head eqb x xs once))

pub IsDistinct-filter : (p : ℕ → Bool) (xs : List ℕ) → IsDistinct eqb xs → IsDistinct eqb (filter p xs)
IsDistinct-filter p [] once = once
IsDistinct-filter p (x ∷ xs) once =
    let rest = IsDistinct-filter p xs (IsDistinct-tail eqb x xs once) in
    ⊎_elim
    (λ (on : p x ≡ true).
    let both = once_more x (filter p xs) (λ i. first_once x xs once (In-filtered p xs x i).0) rest in
    rw on both)
    (λ (off : p x ≡ false). rw off rest)
    (bool_cases (p x))

-- two lists without doubles and without a cell in common
pub IsDistinct-joined : (xs ys : List ℕ) → IsDistinct eqb xs → IsDistinct eqb ys → ((c : ℕ) → In xs c → ¬ In ys c)
    → IsDistinct eqb (xs ++ ys)
IsDistinct-joined [] ys once_x once_y differ = once_y
IsDistinct-joined (x ∷ xs) ys once_x once_y differ =
    once_more x (xs ++ ys)
    (λ i. ⊎_elim
    (λ a. first_once x xs once_x a)
    (λ b. differ x (In-self x xs) b)
    (or_cases (list_any (eqb x) xs) (list_any (eqb x) ys) (sym (list_any-append (eqb x) xs ys) ∙ i)))
    (IsDistinct-joined xs ys (IsDistinct-tail eqb x xs once_x) once_y (λ c i. differ c (In-more c x xs i)))
