-- The number of a set of small numbers.
use Rattle.std.proofs.Common.{◌≡◌, ◌≢◌, ℕ, zero, suc, ◌+◌, ◌*◌, ◌/◌, ◌%◌, ◌^◌, ◌<◌, Bool, true, false, cond}
use Rattle.std.proofs.Common.{refl, sym, ap, ◌∙◌, arith, ⊎_elim, IsTrue, ◌↔◌}
use Rattle.std.specs.Int.{bit_at, IsBitSet}
use Rattle.std.proofs.Math.Nat.{pow-suc}
use Rattle.std.proofs.Math.Numerals.{add-one}
use Rattle.std.proofs.lemmas.Bool.{cases_eq}
use Rattle.std.proofs.lemmas.Nat.{pow_pos}
use Rattle.std.proofs.lemmas.Nat.Bits.{same_from_bits_below, bit_at-suc, bit_at_lowest, bit_at-lt, and_pow}
use Rattle.ps_cells.specs.Settled.{bits_of}
use Rattle.ps_grid.proofs.ChainLemmas.{bool_cases}

as_number : Bool → ℕ
as_number b = cond b 1 0

as_number-lt : (b : Bool) → cond b 1 0 < 2
as_number-lt true = omega arith
as_number-lt false = omega arith

-- the lowest bit, and the others
bits_of-suc : (p : ℕ → Bool) (n : ℕ) → bits_of p (suc n) ≡ cond (p 0) 1 0 + 2 * bits_of (λ k. p (k + 1)) n
unfolding bits_of
bits_of-suc p n = refl

bits_of-zero : (p : ℕ → Bool) → bits_of p zero < 2 ^ zero
unfolding bits_of
bits_of-zero p = omega arith

bits_of-lt : (p : ℕ → Bool) (n : ℕ) → bits_of p n < 2 ^ n
bits_of-lt p zero = bits_of-zero p
bits_of-lt p (suc n) =
    let less = bits_of-lt (λ k. p (k + 1)) n in
    let low = as_number-lt (p 0) in
    let power = pow-suc 2 n in
    let this = bits_of-suc p n in
    omega (arith, less, low, power, this)

lowest_of : (b y : ℕ) → b < 2 → (b + 2 * y) % 2 ≡ b
lowest_of b y lt = omega arith

rest_of : (b y : ℕ) → b < 2 → (b + 2 * y) / 2 ≡ y
rest_of b y lt = omega arith

bit_at-bits_of : (p : ℕ → Bool) (n i : ℕ) → i < n → bit_at (bits_of p n) i ≡ cond (p i) 1 0
bit_at-bits_of p zero i lt = absurd (omega arith)
bit_at-bits_of p (suc n) zero lt =
    bit_at_lowest (bits_of p (suc n))
    ∙ (ap (λ x. x % 2) (bits_of-suc p n)
    ∙ lowest_of (cond (p 0) 1 0) (bits_of (λ k. p (k + 1)) n) (as_number-lt (p 0)))
bit_at-bits_of p (suc n) (suc i) lt =
    bit_at-suc (bits_of p (suc n)) i
    ∙ (ap (λ x. bit_at (x / 2) i) (bits_of-suc p n)
    ∙ (ap (λ x. bit_at x i) (rest_of (cond (p 0) 1 0) (bits_of (λ k. p (k + 1)) n) (as_number-lt (p 0)))
    ∙ (bit_at-bits_of (λ k. p (k + 1)) n i (omega arith)
    ∙ ap (λ k. cond (p k) 1 0) (add-one i))))

-- a bit that is set is 1, and one that isn't is 0
bit_is : (x k : ℕ) (b : Bool) → (IsBitSet x k ↔ IsTrue b) → bit_at x k ≡ cond b 1 0
bit_is x k b each =
    ⊎_elim
    (λ (none : bit_at x k ≡ 0). ⊎_elim
    (λ (yes_it : b ≡ true). absurd (each.1 yes_it (and_pow x k ∙ ap (λ n. n * 2 ^ k) none ∙ omega arith)))
    (λ (not_it : b ≡ false). none ∙ sym (ap (λ (q : Bool). cond q 1 0) not_it))
    (bool_cases b))
    (λ (some : bit_at x k ≢ 0).
    let one : bit_at x k ≡ 1 = let lt = bit_at-lt x k in omega (arith, lt, some) in
    let is_set : IsBitSet x k = λ zero_bits.
    let e : 1 * 2 ^ k ≡ 0 = sym (and_pow x k ∙ ap (λ n. n * 2 ^ k) one) ∙ zero_bits in
    let positive = pow_pos k in omega (arith, e, positive) in
    one ∙ sym (ap (λ (q : Bool). cond q 1 0) (each.0 is_set)))
    (cases_eq (bit_at x k) 0)

-- a number below 2 ^ n whose bits are those of the set is the number of the set
pub is_bits_of : (p : ℕ → Bool) (n x : ℕ) → x < 2 ^ n → ((k : ℕ) → k < n → IsBitSet x k ↔ IsTrue (p k))
    → x ≡ bits_of p n
is_bits_of p n x less each =
    same_from_bits_below n x (bits_of p n) less (bits_of-lt p n)
    (λ i lt. bit_is x i (p i) (each i lt) ∙ sym (bit_at-bits_of p n i lt))
