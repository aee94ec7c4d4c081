-- Lists of cells that grow at their end, and counts of cells.
use Rattle.std.proofs.Common.{◌≡◌, ℕ, zero, suc, ◌+◌, ◌<◌, true, false, ◌⊎◌, inl, inr, List, [], ◌∷◌, ◌++◌}
use Rattle.std.proofs.Common.{length, take, get_or, refl, sym, ◌∙◌, arith, ⊎_elim, eqb, subst}
use Rattle.std.specs.List.{list_any, IsDistinct, AllByRecursion}
use Rattle.std.proofs.lemmas.Bool.{or_left, or_right, or_cases}
use Rattle.std.proofs.lemmas.List.Folds.{list_any-append}
use Rattle.std.proofs.lemmas.Map.Keys.{IsDistinct-cons, IsDistinct-head, IsDistinct-tail}
use Rattle.ps_grid.specs.Chains.{In}
use Rattle.ps_grid.proofs.ChainLemmas.{bool_cases, In-one, In-self, In-more, In-cases, apart}
use Rattle.ps_cells.specs.Inside.Walk.{IsCount}
use Rattle.ps_cells.proofs.SettledValues.{true_not_false}

-- a cell in a list is in the list with one more
pub In-pushed : (xs : List ℕ) (x c : ℕ) → In xs c → In (xs ++ x ∷ []) c
In-pushed xs x c h = list_any-append (eqb c) xs (x ∷ []) ∙ or_left (list_any (eqb c) xs) (list_any (eqb c) (x ∷ [])) h

-- and so is the one
pub In-end : (xs : List ℕ) (x : ℕ) → In (xs ++ x ∷ []) x
In-end xs x =
    list_any-append (eqb x) xs (x ∷ []) ∙ or_right (list_any (eqb x) xs) (list_any (eqb x) (x ∷ [])) (In-self x [])

pub In-pushed_cases : (xs : List ℕ) (x c : ℕ) → In (xs ++ x ∷ []) c → In xs c ⊎ (c ≡ x)
In-pushed_cases xs x c h =
    ⊎_elim (λ i. inl i) (λ i. inr (In-one c x i))
    (or_cases (list_any (eqb c) xs) (list_any (eqb c) (x ∷ [])) (sym (list_any-append (eqb c) xs (x ∷ [])) ∙ h))

-- as many numbers have a property as have an equivalent one
pub count_same : (P Q : ℕ → Type 0) (n : ℕ) → IsCount P n → ((c : ℕ) → P c → Q c) → ((c : ℕ) → Q c → P c) → IsCount Q n
count_same P Q n k to from = (k.0, k.1, (λ d i. to d (k.2 d i)), (λ d q. k.3 d (from d q)), k.4)

-- no number has a fact that none can have
pub count_none : (P : ℕ → Type 0) → ((c : ℕ) → ¬ P c) → IsCount P 0
unfolding IsDistinct
count_none P none = ([], tt, (λ d i. absurd (let f : false ≡ true = i in cc)), (λ d p. absurd (none d p)), refl)

-- one number more has the fact Q than has P
pub count_more : (P Q : ℕ → Type 0) (n x : ℕ) → IsCount P n → ¬ P x → ((c : ℕ) → P c → Q c) → Q x
    → ((c : ℕ) → Q c → P c ⊎ (c ≡ x)) → IsCount Q (n + 1)
count_more P Q n x k fresh to here from =
    let absent : list_any (eqb x) k.0 ≡ false =
    ⊎_elim (λ i. absurd (fresh (k.2 x i))) (λ f. f) (bool_cases (list_any (eqb x) k.0)) in (
      x ∷ k.0,
      IsDistinct-cons eqb x k.0 (apart x k.0 absent) k.1,
      (λ d i. ⊎_elim (λ e. subst Q (sym e) here) (λ more. to d (k.2 d more)) (In-cases d x k.0 i)),
      (λ d q. ⊎_elim (λ p. In-more d x k.0 (k.3 d p)) (λ e. subst (In (x ∷ k.0)) (sym e) (In-self x k.0)) (from d q)),
      let e = k.4 in omega arith,
    )

-- a cell that differs from each of a list is not in it
pub absent : (x : ℕ) (xs : List ℕ) → AllByRecursion (λ y. eqb x y ≡ false) xs → list_any (eqb x) xs ≡ false
absent x [] h = refl
absent x (y ∷ ys) h = let here = h.0 in let others = absent x ys h.1 in rw (here, others) refl

-- a place of a list is in it
pub In-place : (xs : List ℕ) (i d : ℕ) → i < length xs → In xs (get_or xs i d)
In-place [] i d lt = absurd (omega (arith, lt))
In-place (x ∷ xs) zero d lt = In-self x xs
In-place (x ∷ xs) (suc i) d lt = In-more (get_or xs i d) x xs (In-place xs i d (omega (arith, lt)))

-- what stands at a place is not among the ones before, where each is there once
pub fresh_place : (xs : List ℕ) (i d : ℕ) → IsDistinct eqb xs → i < length xs → ¬ In (take i xs) (get_or xs i d)
fresh_place [] i d once lt h = absurd (omega (arith, lt))
fresh_place (x ∷ xs) zero d once lt h = absurd (let f : false ≡ true = h in cc)
fresh_place (x ∷ xs) (suc i) d once lt h =
    ⊎_elim
    (λ e. true_not_false (list_any (eqb x) xs)
    (subst (λ q. In xs q) e (In-place xs i d (omega (arith, lt))))
    (absent x xs (IsDistinct-head eqb x xs once)))
    (λ later. fresh_place xs i d (IsDistinct-tail eqb x xs once) (omega (arith, lt)) later)
    (In-cases (get_or xs i d) x (take i xs) h)
