-- Which session slots made the patches of a list.
use Rattle.std.proofs.Common.{◌≡◌, ◌≢◌, ◌+◌, ◌≤◌, ◌==◌, ℕ, suc, true, false, cond}
use Rattle.std.proofs.Common.{List, [], ◌∷◌, ◌++◌, All, length, ap, arith, ⊎_elim, sym, subst, ◌∙◌}
use Rattle.std.specs.Prelude.{sum_by}
use Rattle.std.proofs.lemmas.Bool.{eq-eqb}
use Rattle.std.proofs.lemmas.Bool.Decides.{eqb_tells}
use Rattle.std.proofs.lemmas.List.Elements.{All-cons, All-head, All-tail}
use Rattle.std.proofs.lemmas.List.Sums.{sum_by-append, sum_by-cons, sum_by-le, sum_by_push}
use mathlib.Core.List.{IsPrefix}
use Rattle.ps_face.specs.declared.patch.Note.{Note}
use Rattle.ps_desk.specs.Passes.{PassView, owned_by}
use Rattle.ps_desk.specs.Closing.{AreOwned, OfOtherSeats}

-- a patch counts only for its own slot
abbrev pub counts : ℕ → Note → ℕ
counts seat p = cond (p.owner == seat) 1 0

pub owned_more : (seat : ℕ) (xs ys : List Note) → IsPrefix xs ys → owned_by seat xs ≤ owned_by seat ys
owned_more seat xs ys p = omega (arith, sum_by-append (counts seat) xs p.0, ap (owned_by seat) p.1)

pub owned_push : (seat : ℕ) (xs : List Note) (p : Note) → p.owner ≡ seat
    → owned_by seat (xs ++ p ∷ []) ≡ owned_by seat xs + 1
owned_push seat xs p is =
    let one : counts seat p ≡ 1 = ap (λ b. cond b 1 0) (eq-eqb p.owner seat is) in
    omega (arith, sum_by_push (counts seat) xs p, one)

-- a pass that has seen one more patch, of its own slot, may count that patch
pub owned_next : (old new : PassView) (list : List Note) (patch : Note) → new ≡ record old { list = list }
    → list ≡ old.list ++ patch ∷ [] → patch.owner ≡ old.seat → old.appended ≤ owned_by old.seat old.list
    → new.appended + 1 ≤ owned_by new.seat new.list
owned_next old new list patch caught last own less =
    subst (λ (q : PassView). q.appended + 1 ≤ owned_by q.seat q.list) (sym caught)
    (subst (λ (l : List Note). old.appended + 1 ≤ owned_by old.seat l) (sym last)
    (omega (arith, less, owned_push old.seat old.list patch own)))

module _ {X : Type 0} (f g : X → ℕ) where
  sums_both : (xs : List X) → sum_by (λ x. f x + g x) xs ≡ sum_by f xs + sum_by g xs
  sums_both [] = omega arith
  sums_both (x ∷ xs) =
      omega (arith, sums_both xs, sum_by-cons (λ y. f y + g y) x xs, sum_by-cons f x xs, sum_by-cons g x xs)

  sums_same : (xs : List X) → ((x : X) → f x ≡ g x) → sum_by f xs ≡ sum_by g xs
  sums_same [] same = omega arith
  sums_same (x ∷ xs) same =
      omega (arith, same x, sums_same xs same, sum_by-cons f x xs, sum_by-cons g x xs)

  sums_less : (xs : List X) → All (λ x. f x ≤ g x) xs → sum_by f xs ≤ sum_by g xs
  sums_less [] less = omega arith
  sums_less (x ∷ xs) less =
      let one = All-head (λ y. f y ≤ g y) x xs less in
      let rest = sums_less xs (All-tail (λ y. f y ≤ g y) x xs less) in
      omega (arith, one, rest, sum_by-cons f x xs, sum_by-cons g x xs)

  -- if each f x is at most g x, and the sum of f is at least that of g, f x and g x are the same for each x
  none_less : (xs : List X) → All (λ x. f x ≤ g x) xs → sum_by g xs ≤ sum_by f xs → All (λ x. g x ≡ f x) xs
  none_less [] less whole = λ k d lt. absurd (omega arith)
  none_less (x ∷ xs) less whole =
      let one = All-head (λ y. f y ≤ g y) x xs less in
      let others = All-tail (λ y. f y ≤ g y) x xs less in
      let rest = sums_less xs others in
      let both = sum_by-cons f x xs in
      let above = sum_by-cons g x xs in
      All-cons (λ y. g y ≡ f y) x xs (omega (arith, one, rest, both, above, whole))
      (none_less xs others (omega (arith, one, both, above, whole)))

-- if no two passes have the same slot, a patch counts for at most one pass
module _ (patch : Note) where
  marks : PassView → ℕ
  marks p = counts p.seat patch

  unmarked : (p : PassView) (passes : List PassView) → patch.owner ≡ p.seat → All (λ q. p.seat ≢ q.seat) passes
      → sum_by (λ q. counts q.seat patch) passes ≤ 0
  unmarked p [] is others = omega arith
  unmarked p (q ∷ passes) is others =
      let other = All-head (λ x. p.seat ≢ x.seat) q passes others in
      let none : counts q.seat patch ≡ 0 =
      ⊎_elim (λ (t : ((patch.owner == q.seat) ≡ true) × (patch.owner ≡ q.seat)). absurd (other (sym is ∙ t.1)))
      (λ (t : ((patch.owner == q.seat) ≡ false) × (patch.owner ≢ q.seat)). ap (λ b. cond b 1 0) t.0)
      (eqb_tells patch.owner q.seat) in
      let rest = unmarked p passes is (All-tail (λ x. p.seat ≢ x.seat) q passes others) in
      omega (arith, none, rest, sum_by-cons (λ x. counts x.seat patch) q passes)

  marked_once : (passes : List PassView) → OfOtherSeats passes → sum_by (λ q. counts q.seat patch) passes ≤ 1
  marked_once [] apart = omega arith
  marked_once (p ∷ passes) apart =
      let others : All (λ q. p.seat ≢ q.seat) passes = λ k d lt. apart 0 (suc k) d (omega arith) (omega arith) in
      let rest : OfOtherSeats passes = λ i j d lt within. apart (suc i) (suc j) d (omega arith) (omega arith) in
      let both = sum_by-cons (λ x. counts x.seat patch) p passes in
      ⊎_elim
      (λ (t : ((patch.owner == p.seat) ≡ true) × (patch.owner ≡ p.seat)).
      let one : counts p.seat patch ≡ 1 = ap (λ b. cond b 1 0) t.0 in
      omega (arith, both, one, unmarked p passes t.1 others))
      (λ (t : ((patch.owner == p.seat) ≡ false) × (patch.owner ≢ p.seat)).
      let none : counts p.seat patch ≡ 0 = ap (λ b. cond b 1 0) t.0 in
      omega (arith, both, none, marked_once passes rest))
      (eqb_tells patch.owner p.seat)

-- so the patches of all slots together are no more than the list has
owned_within : (list : List Note) (passes : List PassView) → OfOtherSeats passes
    → sum_by (λ p. owned_by p.seat list) passes ≤ length list
owned_within [] passes apart = omega (arith, sum_by-le (λ p. owned_by p.seat []) 0 passes (λ k d lt. omega arith))
owned_within (patch ∷ list) passes apart =
    let split = sums_same (λ p. owned_by p.seat (patch ∷ list)) (λ p. counts p.seat patch + owned_by p.seat list) passes
    (λ p. sum_by-cons (counts p.seat) patch list) in
    let both = sums_both (λ p. counts p.seat patch) (λ p. owned_by p.seat list) passes in
    omega (arith, split, both, marked_once patch passes apart, owned_within list passes apart)

-- so each pass appended all patches of its slot
pub all_owned : (list : List Note) (passes : List PassView) → All (λ p. p.appended ≤ owned_by p.seat list) passes
    → length list ≡ sum_by (λ p. p.appended) passes → OfOtherSeats passes → AreOwned list passes
all_owned list passes counted grown apart =
    none_less (λ p. p.appended) (λ p. owned_by p.seat list) passes counted
    (omega (arith, grown, owned_within list passes apart))
