-- The remainder that is cut towards zero, and the one with the sign of the divisor.
use Rattle.std.proofs.Common.{◌≡◌, ◌⊎◌, suc, zero, ⊎_elim, ℤ, pos, ap, ◌∙◌, subst}
use Rattle.std.proofs.Common.{FitsSigned, to_z, of_z, w64}
use Rattle.std.proofs.Common.{negsuc, ◌+ℤ◌, ◌-ℤ◌, ◌*ℤ◌, ◌<ℤ◌, ◌≤ℤ◌, arith}
use Rattle.std.specs.Prelude.{int_rem}
use Rattle.std.proofs.lemmas.Int.{ints, to_z-of_z}
use Rattle.std.proofs.lemmas.Nat.{div-add-mod'}
use Rattle.ps_grid.proofs.WalkLemmas.{next_rest}
use Rattle.ps_eval.specs.Number.{floored}

pub rest_low : (a b : ℤ) → pos 0 <ℤ b → int_rem a b <ℤ pos 0 → int_rem a b +ℤ b ≡ a -ℤ b *ℤ floored a b
rest_low (pos n) (pos b) above low = omega (arith, ints)
rest_low (negsuc n) (pos b) above low =
    omega (arith, ints, div-add-mod' n b, next_rest n b (omega (arith, ints)))
rest_low a (negsuc b) above low = omega (arith, ints)

pub rest_high : (a b : ℤ) → pos 0 <ℤ b → pos 0 ≤ℤ int_rem a b → int_rem a b ≡ a -ℤ b *ℤ floored a b
rest_high (pos n) (pos b) above high = let w = div-add-mod' n b in omega (arith, ints)
rest_high (negsuc n) (pos b) above high =
    omega (arith, ints, div-add-mod' n b, next_rest n b (omega (arith, ints)))
rest_high a (negsuc b) above high = omega (arith, ints)

pub rest_over : (a b : ℤ) → b <ℤ pos 0 → pos 0 <ℤ int_rem a b → int_rem a b +ℤ b ≡ a -ℤ b *ℤ floored a b
rest_over a (pos b) below over = omega (arith, ints)
rest_over (pos zero) (negsuc m) below over = omega (arith, ints)
rest_over (pos (suc n)) (negsuc m) below over =
    omega (arith, ints, div-add-mod' n (suc m), next_rest n (suc m) (omega arith))
rest_over (negsuc n) (negsuc m) below over = omega (arith, ints)

pub rest_under : (a b : ℤ) → b <ℤ pos 0 → int_rem a b ≤ℤ pos 0 → int_rem a b ≡ a -ℤ b *ℤ floored a b
rest_under a (pos b) below under = omega (arith, ints)
rest_under (pos zero) (negsuc m) below under = omega (arith, ints)
rest_under (pos (suc n)) (negsuc m) below under =
    omega (arith, ints, div-add-mod' n (suc m), next_rest n (suc m) (omega arith))
rest_under (negsuc n) (negsuc m) below under = let w = div-add-mod' (suc n) (suc m) in omega (arith, ints)

-- numbers of 64 bits are what their words stand for
of_words : (a b r : ℤ) → FitsSigned w64 a → FitsSigned w64 b
    → r ≡ int_rem (to_z w64 (of_z w64 a)) (to_z w64 (of_z w64 b)) → r ≡ int_rem a b
of_words a b r a_fits b_fits is = simp to_z-of_z at is

-- a remainder that is cut towards zero and has the other sign than the divisor: the machine's sum of both is the other
-- remainder
pub other_sign : (a b r : ℤ) → FitsSigned w64 a → FitsSigned w64 b → FitsSigned w64 r
    → r ≡ int_rem (to_z w64 (of_z w64 a)) (to_z w64 (of_z w64 b))
    → ((r <ℤ pos 0) × (pos 0 <ℤ b)) ⊎ ((pos 0 <ℤ r) × (b <ℤ pos 0))
    → to_z w64 (of_z w64 (to_z w64 (of_z w64 r) +ℤ to_z w64 (of_z w64 b))) ≡ a -ℤ b *ℤ floored a b
other_sign a b r a_fits b_fits r_fits is signs =
    let same = of_words a b r a_fits b_fits is in
    let sum : to_z w64 (of_z w64 (to_z w64 (of_z w64 r) +ℤ to_z w64 (of_z w64 b))) ≡ r +ℤ b =
    ⊎_elim (λ s. let low = s.0 in let high = s.1 in omega (arith, ints))
    (λ s. let high = s.0 in let low = s.1 in omega (arith, ints)) signs in
    sum ∙ ap (λ z. z +ℤ b) same
    ∙ ⊎_elim (λ s. rest_low a b s.1 (subst (λ z. z <ℤ pos 0) same s.0))
    (λ s. rest_over a b s.1 (subst (λ z. pos 0 <ℤ z) same s.0)) signs

-- .. and one that isn't below 0, of a divisor above 0, is the other remainder itself
pub same_sign : (a b r : ℤ) → FitsSigned w64 a → FitsSigned w64 b → FitsSigned w64 r
    → r ≡ int_rem (to_z w64 (of_z w64 a)) (to_z w64 (of_z w64 b)) → pos 0 <ℤ b → pos 0 ≤ℤ r
    → to_z w64 (of_z w64 r) ≡ a -ℤ b *ℤ floored a b
same_sign a b r a_fits b_fits r_fits is above high =
    let same = of_words a b r a_fits b_fits is in
    to_z-of_z w64 r r_fits ∙ same ∙ rest_high a b above (subst (λ z. pos 0 ≤ℤ z) same high)
