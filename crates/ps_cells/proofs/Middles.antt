-- What stands in the middle of a list.
use Rattle.std.proofs.Common.{◌≡◌, ℕ, List, [], ◌∷◌, ◌++◌, false, true, eqb, subst, ⊎_elim}
use Rattle.std.specs.List.{All, IsDistinct}
use Rattle.std.proofs.lemmas.List.Elements.{All-head, All-tail}
use Rattle.std.proofs.lemmas.Map.Keys.{IsDistinct-tail}
use Rattle.ps_grid.specs.Chains.{In}
use Rattle.ps_grid.proofs.ChainLemmas.{In-self, In-more, In-cases}
use Rattle.ps_cells.proofs.CyclicLists.{first_once}

In-middle : (xs ys : List ℕ) (x : ℕ) → In (xs ++ x ∷ ys) x
In-middle [] ys x = In-self x ys
In-middle (z ∷ xs) ys x = In-more x z (xs ++ x ∷ ys) (In-middle xs ys x)

-- it is not among those before it, where each is there once
pub fresh_middle : (xs ys : List ℕ) (x : ℕ) → IsDistinct eqb (xs ++ x ∷ ys) → ¬ In xs x
fresh_middle [] ys x once i = let f : false ≡ true = i in cc
fresh_middle (z ∷ xs) ys x once i =
    ⊎_elim
    (λ (e : x ≡ z). first_once z (xs ++ x ∷ ys) once (subst (In (xs ++ x ∷ ys)) e (In-middle xs ys x)))
    (λ (later : In xs x). fresh_middle xs ys x (IsDistinct-tail eqb z (xs ++ x ∷ ys) once) later)
    (In-cases x z xs i)

-- and has what all have
pub All-middle : {X : Type 0} (P : X → Type 0) (xs ys : List X) (x : X) → All P (xs ++ x ∷ ys) → P x
All-middle P [] ys x all = All-head P x ys all
All-middle P (z ∷ xs) ys x all = All-middle P xs ys x (All-tail P z (xs ++ x ∷ ys) all)
