-- The bits of a number, one for each option that is in.
use Rattle.std.proofs.Common.{◌≡◌, ◌≢◌, ℕ, ◌+◌, ◌*◌, ◌^◌, ◌%◌, ◌<◌, Bool, true, false, cond, not, ◌&&◌, ◌||◌, ◌==◌}
use Rattle.std.proofs.Common.{List, [], ◌∷◌, take, get_or, length, refl, sym, ap, ◌∙◌, arith, ◌↔◌, IsTrue, bit_or}
use Rattle.std.proofs.Common.{w64}
use mathlib.Core.Bool.{false≢true}
use borrow.Author.Tests.{eqb-true, eqb-false}
use Rattle.std.specs.Int.{bit_at, IsBitSet}
use Rattle.std.specs.List.{list_any}
use Rattle.std.proofs.lemmas.Nat.{pow_pos}
use Rattle.std.proofs.lemmas.Nat.Bits.{and_pow, bit_at_set_same, bit_at_set_other}
use Rattle.std.proofs.lemmas.List.{take_more}
use Rattle.std.proofs.lemmas.List.Folds.{list_any-append}
use Rattle.ps_lattice.specs.declared.choice.Pair.{Pair}
use Rattle.ps_lattice.specs.declared.limits.TheConstants.{OPTIONS}
use Rattle.ps_lattice.specs.Choice.{is_live}

-- a bit that is 1 is set, and one that is 0 isn't
pub tells_bit : (n k : ℕ) (b : Bool) → bit_at n k ≡ cond b 1 0 → IsBitSet n k ↔ IsTrue b
tells_bit n k true h = (
  λ _. refl,
  λ _ none. let e = sym (ap (λ m. m * 2 ^ k) h) ∙ sym (and_pow n k) ∙ none in let some = pow_pos k in
      omega arith,
)
tells_bit n k false h =
    (λ set. absurd (set (let e = and_pow n k ∙ ap (λ m. m * 2 ^ k) h in omega arith)), λ e. absurd (false≢true e))

pub or_nothing : (b : Bool) → (b || (false || false)) ≡ b
or_nothing true = refl
or_nothing false = refl

pub or_something : (b : Bool) → (b || (true || false)) ≡ true
or_something true = refl
or_something false = refl

-- a removed pair sets no bit
pub removed_step : (n k : ℕ) (e : Pair × Bool) (done : Bool) → bit_at n k ≡ cond done 1 0 → e.1 ≡ true
    → bit_at n k ≡ cond (done || (is_live k e || false)) 1 0
removed_step n k e done h gone =
    h ∙ ap (λ b. cond b 1 0) (sym (ap (λ b. done || (b || false))
    (ap (λ g. (e.0.option == k) && not g) gone ∙ never (e.0.option == k)) ∙ or_nothing done))
  where
    never : (b : Bool) → (b && false) ≡ false
    never true = refl
    never false = refl

live_step_by : (n k : ℕ) (e : Pair × Bool) (done : Bool) → k < OPTIONS → e.0.option < OPTIONS
    → bit_at n k ≡ cond done 1 0
    → e.1 ≡ false
    → (same : Bool) → (e.0.option == k) ≡ same
    → bit_at (bit_or n (1 * 2 ^ e.0.option % 2 ^ 64)) k ≡ cond (done || (is_live k e || false)) 1 0
live_step_by n k e done low within h gone true is =
    let option : e.0.option ≡ k = eqb-true e.0.option k is in
    ap (λ o. bit_at (bit_or n (1 * 2 ^ o % 2 ^ 64)) k) option ∙ bit_at_set_same w64 n k low
    ∙ ap (λ b. cond b 1 0) (sym (ap (λ b. done || (b || false)) (λ i. is i && not (gone i)) ∙ or_something done))
live_step_by n k e done low within h gone false is =
    let other : k ≢ e.0.option = λ same. eqb-false e.0.option k is (sym same) in
    bit_at_set_other w64 n e.0.option within k other ∙ h
    ∙ ap (λ b. cond b 1 0) (sym (ap (λ b. done || (b || false)) (λ i. is i && not (gone i)) ∙ or_nothing done))

-- one that isn't removed sets its own
pub live_step : (n k : ℕ) (e : Pair × Bool) (done : Bool) → k < OPTIONS → e.0.option < OPTIONS
    → bit_at n k ≡ cond done 1 0
    → e.1 ≡ false
    → bit_at (bit_or n (1 * 2 ^ e.0.option % 2 ^ 64)) k ≡ cond (done || (is_live k e || false)) 1 0
live_step n k e done low within h gone = live_step_by n k e done low within h gone (e.0.option == k) refl

-- one more pair
pub any_more : (k : ℕ) (es : List (Pair × Bool)) (i : ℕ) (d : Pair × Bool) → i < length es
    → list_any (is_live k) (take (i + 1) es) ≡ (list_any (is_live k) (take i es) ||
    (is_live k (get_or es i d) || false))
any_more k es i d within =
    ap (list_any (is_live k)) (take_more es i d within) ∙ list_any-append (is_live k) (take i es) (get_or es i d ∷ [])
