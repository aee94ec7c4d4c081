-- Numerals that are no whole numbers.
use Rattle.std.proofs.Common.{◌≡◌, ℕ, ℤ, Bool, true, false, cond, not, Some, None, refl}
use Rattle.fast_float.specs.Text.{Parts}
use Rattle.serde_json.specs.Data.{Num, unsigned, negative}
use Rattle.serde_json.specs.Read.{float_of}

no_unsigned : (b : Bool) (x : Num) (k : ℕ) → (x ≡ unsigned k → ⊥) → cond b (Some x) None ≡ Some (unsigned k) → ⊥
no_unsigned true x k other e = other cc
no_unsigned false x k other e = cc

-- a number that is stored as a float isn't a whole number without a sign
pub no_float : (p : Parts) (sign : Bool) (k : ℕ) → float_of sign p ≡ Some (unsigned k) → ⊥
no_float p sign k e = no_unsigned _ _ k (λ (f : _). cc) e

-- .. nor is a number with a minus
pub negative_refused : (p : Parts) (k : ℕ) (b : Bool) (z : ℤ) → cond b (Some (negative z)) (float_of true p)
    ≡ Some (unsigned k)
    → ⊥
negative_refused p k true z e = cc
negative_refused p k false z e = no_float p true k e

pub not_true : (b : Bool) → not b ≡ true → b ≡ false
not_true true h = absurd cc
not_true false h = refl
