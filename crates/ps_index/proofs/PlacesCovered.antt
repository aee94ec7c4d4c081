-- The places that rectangles cover, and runs of them.
use Rattle.std.proofs.Common.{◌≡◌, ℕ, ◌+◌, ◌/◌, ◌%◌, ◌<◌, ◌≤◌, inl, inr, refl, arith, nat_le, nat_lt, true, false}
use Rattle.std.proofs.Common.{◌||◌, List, [], ◌∷◌}
use Rattle.std.proofs.lemmas.Bool.Decides.{nat_tests}
use Rattle.ps_grid.specs.Rectangle.{Area}
use Rattle.ps_index.specs.declared.runs.TheConstants.{STRIDE}
use Rattle.ps_index.specs.Inside.Places.{covered, covers_place}
use Rattle.ps_index.proofs.BoolTests.{never_true, true_or_false}
use Rattle.ps_index.proofs.RunsOfNumbers.{IsRun}

pub record IsAt (a : Area) (q : ℕ) : Type 0 where
  pub left : a.left ≤ q / STRIDE
  pub right : q / STRIDE < a.left + a.width
  pub top : a.top < q % STRIDE
  pub bottom : q % STRIDE ≤ a.top + a.height

pub covers_place-true : (a : Area) (q : ℕ) → IsAt a q → covers_place a q ≡ true
unfolding covers_place
covers_place-true a q i =
    let l : nat_le a.left (q / STRIDE) ≡ true = grind (arith, nat_tests, i.left) in
    let r : nat_lt (q / STRIDE) (a.left + a.width) ≡ true = grind (arith, nat_tests, i.right) in
    let t : nat_lt a.top (q % STRIDE) ≡ true = grind (arith, nat_tests, i.top) in
    let b : nat_le (q % STRIDE) (a.top + a.height) ≡ true = grind (arith, nat_tests, i.bottom) in
    rw (l, r, t, b) refl

pub covers_place-at : (a : Area) (q : ℕ) → covers_place a q ≡ true → IsAt a q
unfolding covers_place
covers_place-at a q e = record {
  left = grind (arith, nat_tests, e);
  right = grind (arith, nat_tests, e);
  top = grind (arith, nat_tests, e);
  bottom = grind (arith, nat_tests, e);
}

pub covers_place-false : (a : Area) (q : ℕ) → (IsAt a q → ⊥) → covers_place a q ≡ false
covers_place-false a q never = elim (true_or_false (covers_place a q)) [
  | inl e ↦ absurd (never (covers_place-at a q e))
  | inr e ↦ e
]

pub covered-row : (rects : List Area) (q : ℕ) → covered rects q ≡ true → 1 ≤ q % STRIDE
covered-row [] q e = absurd (cc)
covered-row (r ∷ rects) q e = elim (true_or_false (covers_place r q)) [
  | inl here ↦ (let at : IsAt r q = covers_place-at r q here in omega (arith, at.top))
  | inr skip ↦ covered-row rects q (let h : (covers_place r q || covered rects q) ≡ true = e in let h' = rw skip at h in
      h')
]

pub uncovered-row : (rects : List Area) (q : ℕ) → q % STRIDE ≡ 0 → covered rects q ≡ false
uncovered-row rects q e = never_true (covered rects q) (λ (h : covered rects q ≡ true). let some : 1 ≤ q % STRIDE =
    covered-row rects q h in omega arith)

abbrev pub IsPlaceRun : List Area → ℕ → ℕ → Type 0
IsPlaceRun rects a b = IsRun (covered rects) a b
