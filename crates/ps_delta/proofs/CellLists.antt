-- Lists of cells in order.
use Rattle.std.proofs.Common.{ℕ, zero, suc, ◌+◌, ◌<◌, ◌≤◌, List, [], ◌∷◌, ◌++◌, length, get_or, arith, add-one}
use Rattle.std.proofs.Common.{◌≡◌, true, refl, map as each}
use Rattle.std.specs.Ordering.{nat_cmp, is_lt}
use Rattle.std.specs.Cmp.{nat_cmp_total}
use Rattle.std.specs.FinMap as map
use Rattle.std.specs.FinMap.Entries.{below_all}
use Rattle.std.proofs.lemmas.Bool.Decides.{nat_tests}
use Rattle.ps_lattice.proofs.Rising.{and_left, and_both, sorted_head, sorted_rest}
use Rattle.std.specs.List.Sorted.{IsStrictlyIncreasing}
use Rattle.ps_delta.specs.Order.{Rising, Under}

pub Rising-weaker : (m n : ℕ) (cs : List ℕ) → m ≤ n → Rising n cs → Rising m cs
Rising-weaker m n [] h r = tt
Rising-weaker m n (c ∷ cs) h r = (omega (arith, h, r.0), r.1)

-- a cell of the list is n or later
pub Rising-at : (n : ℕ) (cs : List ℕ) (i d : ℕ) → Rising n cs → i < length cs → n ≤ get_or cs i d
Rising-at n [] i d r h = absurd (omega (arith, h))
Rising-at n (c ∷ cs) zero d r h = r.0
Rising-at n (c ∷ cs) (suc i) d r h =
    let later : c + 1 ≤ get_or cs i d = Rising-at (c + 1) cs i d r.1 (omega (arith, h)) in omega (arith, later, r.0)

-- one more cell, after all others
pub Rising-push : (n : ℕ) (cs : List ℕ) (c : ℕ) → Rising n cs → Under c cs → n ≤ c → Rising n (cs ++ c ∷ [])
Rising-push n [] c r u h = (h, tt)
Rising-push n (b ∷ cs) c r u h = (r.0, Rising-push (b + 1) cs c r.1 u.1 (omega (arith, u.0)))

-- cells below n, each once: they are n at most
pub length-rising : (m n : ℕ) (cs : List ℕ) → Rising m cs → Under n cs → m ≤ n → m + length cs ≤ n
length-rising m n [] r u h = omega (arith, h)
length-rising m n (c ∷ cs) r u h =
    let more : c + 1 + length cs ≤ n = length-rising (c + 1) n cs r.1 u.1 (omega (arith, u.0)) in
    omega (arith, more, r.0)

pub rising_from_increasing : (n : ℕ) (cs : List ℕ) → IsStrictlyIncreasing cs → (0 < length cs → n ≤ get_or cs 0 0)
    → Rising n cs
rising_from_increasing n [] inc least = tt
rising_from_increasing n (c ∷ cs) inc least = (
  least (omega arith),
  rising_from_increasing (c + 1) cs
      (λ k h. let p : get_or cs k 0 < get_or (c ∷ cs) (suc k + 1) 0 = inc (suc k) (omega (arith, h)) in
      rw add-one (rw add-one at p))
      (λ h. let p : c < get_or cs 0 0 = inc 0 (omega (arith, h)) in omega (arith, p)),
)

pub increasing_from_rising : (n : ℕ) (cs : List ℕ) → Rising n cs → IsStrictlyIncreasing cs
increasing_from_rising n [] r k h = absurd (omega (arith, h))
increasing_from_rising n (c ∷ cs) r zero h =
    let p : c + 1 ≤ get_or cs 0 0 = Rising-at (c + 1) cs 0 0 r.1 (omega (arith, h)) in
    let q : c < get_or cs 0 0 = omega (arith, p) in q
increasing_from_rising n (c ∷ cs) r (suc k) h =
    let p : get_or cs k 0 < get_or cs (k + 1) 0 = increasing_from_rising (c + 1) cs r.1 k (omega (arith, h)) in
    rw add-one (rw add-one at p)

is_less : (x y : ℕ) → is_lt (nat_cmp x y) ≡ true → x < y
is_less x y h = grind (arith, nat_tests)

less_is : (x y : ℕ) → x < y → is_lt (nat_cmp x y) ≡ true
less_is x y h = grind (arith, nat_tests)

-- what the generic test of ascending keys says of cells
rising_from_below : {X : Type 0} (n : ℕ) (es : List (ℕ × X)) → map.is_sorted nat_cmp es ≡ true
    → below_all nat_cmp n es ≡ true → Rising (n + 1) (each (λ e. e.0) es)
rising_from_below n [] h b = tt
rising_from_below n (e ∷ es) h b =
    let lower : n < e.0 = is_less n e.0 (and_left (is_lt (nat_cmp n e.0)) (below_all nat_cmp n es) b) in (
      omega (arith, lower),
      rising_from_below e.0 es (sorted_rest nat_cmp nat_cmp_total e es h)
          (sorted_head nat_cmp nat_cmp_total e es h),
    )

pub rising_from_sorted : {X : Type 0} (es : List (ℕ × X)) → map.is_sorted nat_cmp es ≡ true
    → Rising 0 (each (λ e. e.0) es)
rising_from_sorted [] h = tt
rising_from_sorted (e ∷ es) h = (
  omega arith,
  rising_from_below e.0 es (sorted_rest nat_cmp nat_cmp_total e es h)
      (sorted_head nat_cmp nat_cmp_total e es h),
)

below_from_rising : {X : Type 0} (m n : ℕ) (es : List (ℕ × X)) → m < n → Rising n (each (λ e. e.0) es)
    → below_all nat_cmp m es ≡ true
below_from_rising m n [] h r = refl
below_from_rising m n (e ∷ es) h r =
    and_both (is_lt (nat_cmp m e.0)) _ (less_is m e.0 (omega (arith, h, r.0)))
    (below_from_rising m (e.0 + 1) es (omega (arith, h, r.0)) r.1)

pub sorted_from_rising : {X : Type 0} (n : ℕ) (es : List (ℕ × X)) → Rising n (each (λ e. e.0) es)
    → map.is_sorted nat_cmp es ≡ true
sorted_from_rising n [] r = refl
sorted_from_rising n (e ∷ es) r =
    and_both _ _ (below_from_rising e.0 (e.0 + 1) es (omega arith) r.1) (sorted_from_rising (e.0 + 1) es r.1)
