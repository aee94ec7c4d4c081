-- Tests that choose, and options that hold a value.
use Rattle.std.proofs.Common.{◌≡◌, ℕ, ◌==◌, Bool, true, false, cond, Option, Some, None, refl, sym, subst}
use Rattle.std.specs.Option.{option_map}
use Rattle.std.proofs.lemmas.Bool.{eqb-true}

-- the value of `cond b (Some x) o` is x, or it is the value of o
pub if_some_or : {X P : Type 0} (b : Bool) (x y : X) (o : Option X) → (b ≡ true → x ≡ y → P) → (o ≡ Some y → P)
    → cond b (Some x) o ≡ Some y → P
if_some_or true x y o this others e = this refl cc
if_some_or false x y o this others e = others e

-- where a mapped option comes from
pub option_map_from : {X Y P : Type 0} (f : X → Y) (o : Option X) (y : Y) → ((x : X) → o ≡ Some x → f x ≡ y → P)
    → option_map f o ≡ Some y → P
option_map_from f None y then e = cc
option_map_from f (Some x) y then e = then x refl cc

-- a byte that is known
pub byte_is : (p : ℕ → Bool) (v : Bool) (b k : ℕ) → (b == k) ≡ true → p k ≡ v → p b ≡ v
byte_is p v b k e h = subst (λ c. p c ≡ v) (sym (eqb-true b k e)) h
