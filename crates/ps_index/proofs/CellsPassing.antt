-- The cells that pass a test, as a list.
use Rattle.std.proofs.Common.{◌≡◌, ℕ, zero, suc, ◌+◌, ◌-◌, ◌<◌, ◌≤◌, inl, inr, sym, ◌∙◌, ap, refl, arith, cond, Bool}
use Rattle.std.proofs.Common.{true, false, [], ◌∷◌, nat_eq}
use Rattle.std.proofs.lemmas.Bool.{cases_lt}
use Rattle.std.proofs.lemmas.Bool.Decides.{nat_tests}
use Rattle.std.specs.List.{list_any, filter, range_with_len, IsDistinct, AllByRecursion}
use Rattle.ps_index.specs.Spans.{cells_from}
use Rattle.ps_index.proofs.BoolTests.{true_or_false}

cells_from-step : (test : ℕ → Bool) (c n : ℕ) → c < n
    → cells_from test c n ≡ cond (test c) (c ∷ cells_from test (c + 1) n) (cells_from test (c + 1) n)
unfolding cells_from
cells_from-step test c n lt = let e : n - c ≡ suc (n - (c + 1)) = omega arith in rw e refl

pub cells_from-end : (test : ℕ → Bool) (c n : ℕ) → n ≤ c → cells_from test c n ≡ []
unfolding cells_from
cells_from-end test c n le = let e : n - c ≡ 0 = omega arith in rw e refl

pub none_within : (k : ℕ) (test : ℕ → Bool) (c x n : ℕ) → c + k ≡ x → x ≤ n → ((q : ℕ) → c ≤ q → q < x → test q ≡ false)
    → cells_from test c n ≡ cells_from test x n
none_within zero test c x n e le never = ap (λ m. cells_from test m n) (let same : c ≡ x = omega arith in same)
none_within (suc k) test c x n e le never =
    let skip : test c ≡ false = never c (omega arith) (omega arith) in
    cells_from-step test c n (omega arith)
    ∙ (rw skip (none_within k test (c + 1) x n (omega arith) le (λ (q : ℕ) (from : c + 1 ≤ q) (to : q < x).
    never q (omega arith) to)))

pub cells_from-none : (test : ℕ → Bool) (c n : ℕ) → c ≤ n → ((q : ℕ) → c ≤ q → q < n → test q ≡ false)
    → cells_from test c n ≡ []
cells_from-none test c n le never = none_within (n - c) test c n n (omega arith) (omega arith) never
    ∙ cells_from-end test n n (omega arith)

pub cells_from-first : (test : ℕ → Bool) (c n x : ℕ) → c ≤ x → x < n → test x ≡ true
    → ((q : ℕ) → c ≤ q → q < x → test q ≡ false)
    → cells_from test c n ≡ x ∷ cells_from test (x + 1) n
cells_from-first test c n x from to passes never =
    none_within (x - c) test c x n (omega arith) (omega arith) never ∙ cells_from-step test x n to ∙ rw passes refl

not_in : (k : ℕ) (test : ℕ → Bool) (c q : ℕ) → q < c → list_any (nat_eq q) (filter test (range_with_len c k)) ≡ false
not_in zero test c q lt = refl
not_in (suc k) test c q lt =
    let apart : nat_eq q c ≡ false = (let z : q ≡ c → ⊥ = λ (e : q ≡ c). omega arith in grind (arith, nat_tests, z)) in
    let rest : list_any (nat_eq q) (filter test (range_with_len (c + 1) k)) ≡ false =
    not_in k test (c + 1) q (omega arith) in
    elim (true_or_false (test c)) [
      | inl e ↦ rw (e, apart) rest
      | inr e ↦ rw e rest
    ]

just_those : (k : ℕ) (test : ℕ → Bool) (c q : ℕ) → c ≤ q → q < c + k
    → list_any (nat_eq q) (filter test (range_with_len c k)) ≡ test q
just_those zero test c q le lt = absurd (omega arith)
just_those (suc k) test c q le lt = elim (cases_lt c q) [
  | inl later ↦ (
      let apart : nat_eq q c ≡ false =
      (let z : q ≡ c → ⊥ = λ (e : q ≡ c). omega arith in grind (arith, nat_tests, z)) in
      let rest : list_any (nat_eq q) (filter test (range_with_len (c + 1) k)) ≡ test q =
      just_those k test (c + 1) q (omega arith) (omega arith) in
      elim (true_or_false (test c)) [ inl e ↦ rw (e, apart) rest | inr e ↦ rw e rest ])
  | inr ge ↦ (
      let same : q ≡ c = omega arith in
      let one : nat_eq q c ≡ true = grind (arith, nat_tests, same) in
      elim (true_or_false (test c)) [
        | inl e ↦ rw (e, one) (sym (ap test same ∙ e))
        | inr e ↦ rw e (not_in k test (c + 1) q (omega arith) ∙ sym (ap test same ∙ e))
      ])
]

pub cells_from-any : (test : ℕ → Bool) (n q : ℕ) → q < n → list_any (nat_eq q) (cells_from test 0 n) ≡ test q
unfolding cells_from
cells_from-any test n q lt = just_those (n - 0) test 0 q (omega arith) (omega arith)

all_later : (k : ℕ) (test : ℕ → Bool) (c x : ℕ) → x < c
    → AllByRecursion (λ y. nat_eq x y ≡ false) (filter test (range_with_len c k))
all_later zero test c x lt = tt
all_later (suc k) test c x lt =
    let apart : nat_eq x c ≡ false = (let z : x ≡ c → ⊥ = λ (e : x ≡ c). omega arith in grind (arith, nat_tests, z)) in
    let rest : AllByRecursion (λ y. nat_eq x y ≡ false) (filter test (range_with_len (c + 1) k)) =
    all_later k test (c + 1) x (omega arith) in
    elim (true_or_false (test c)) [ inl e ↦ rw e (apart, rest) | inr e ↦ rw e rest ]

distinct_from : (k : ℕ) (test : ℕ → Bool) (c : ℕ) → IsDistinct nat_eq (filter test (range_with_len c k))
unfolding IsDistinct
distinct_from zero test c = tt
distinct_from (suc k) test c =
    let rest : IsDistinct nat_eq (filter test (range_with_len (c + 1) k)) = distinct_from k test (c + 1) in
    elim (true_or_false (test c)) [ inl e ↦ rw e (all_later k test (c + 1) c (omega arith), rest) | inr e ↦ rw e rest ]

pub cells_from-distinct : (test : ℕ → Bool) (c n : ℕ) → IsDistinct nat_eq (cells_from test c n)
unfolding cells_from
cells_from-distinct test c n = distinct_from (n - c) test c
