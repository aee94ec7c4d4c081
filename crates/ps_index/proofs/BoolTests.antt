-- Tests and the numbers 0 and 1 that they count as.
use Rattle.std.proofs.Common.{◌≡◌, ◌≤◌, ◌⊎◌, inl, inr, refl, arith, Bool, true, false, sym, not, ◌||◌, ◌&&◌}
use Rattle.ps_index.specs.Inside.Dues.{one_if}

pub true_or_false : (b : Bool) → (b ≡ true) ⊎ (b ≡ false)
true_or_false true = inl refl
true_or_false false = inr refl

pub both : (a b : Bool) → (a && b) ≡ true → (a ≡ true) × (b ≡ true)
both true true e = (refl, refl)
both true false e = absurd (cc)
both false b e = absurd (cc)

pub and_true : (a b : Bool) → a ≡ true → b ≡ true → (a && b) ≡ true
and_true a b e f = rw (e, f) refl

pub not_true : (b : Bool) → not b ≡ true → b ≡ false
not_true false e = refl
not_true true e = absurd (cc)

pub not_false : (b : Bool) → b ≡ false → not b ≡ true
not_false b e = rw e refl

pub bool_same : (a b : Bool) → (a ≡ true → b ≡ true) → (b ≡ true → a ≡ true) → a ≡ b
bool_same true b to back = sym (to refl)
bool_same false true to back = back refl
bool_same false false to back = refl

pub never_true : (b : Bool) → (b ≡ true → ⊥) → b ≡ false
never_true true f = absurd (f refl)
never_true false f = refl

pub or_true : (a : Bool) → (a || true) ≡ true
or_true true = refl
or_true false = refl

pub zero_if : (b : Bool) → b ≡ false → one_if b ≡ 0
zero_if b e = rw e refl

pub one_where : (b : Bool) → b ≡ true → one_if b ≡ 1
one_where b e = rw e refl

pub small_if : (b : Bool) → one_if b ≤ 1
small_if true = omega arith
small_if false = omega arith
