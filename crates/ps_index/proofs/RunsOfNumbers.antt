-- Runs of numbers that pass a test.
use Rattle.std.proofs.Common.{◌≡◌, ℕ, ◌+◌, ◌-◌, ◌≤◌, inl, inr, sym, ◌∙◌, arith, Bool, true, false}
use Rattle.std.proofs.lemmas.Bool.{cases_lt}

-- the numbers from..to pass, and those before and after them don't
pub record IsRun (test : ℕ → Bool) (from to : ℕ) : Type 0 where
  pub ordered : from ≤ to
  pub within : (y : ℕ) → from ≤ y → y ≤ to → test y ≡ true
  pub before : test (from - 1) ≡ false
  pub after : test (to + 1) ≡ false

-- two runs with a number in common are one
pub run_same : (test : ℕ → Bool) (a b a' b' y : ℕ) → IsRun test a b → IsRun test a' b' → a ≤ y → y ≤ b → a' ≤ y → y ≤ b'
    → (a ≡ a') × (b ≡ b')
run_same test a b a' b' y r r' p1 p2 p3 p4 =
    let low : a' ≤ a = elim (cases_lt a a') [
      | inr e ↦ e
      | inl lt ↦ absurd (let h : true ≡ false = sym (r.within (a' - 1) (omega arith) (omega arith)) ∙ r'.before in cc)
    ] in
    let low' : a ≤ a' = elim (cases_lt a' a) [
      | inr e ↦ e
      | inl lt ↦ absurd (let h : true ≡ false = sym (r'.within (a - 1) (omega arith) (omega arith)) ∙ r.before in cc)
    ] in
    let high : b ≤ b' = elim (cases_lt b' b) [
      | inr e ↦ e
      | inl lt ↦ absurd (let h : true ≡ false = sym (r.within (b' + 1) (omega arith) (omega arith)) ∙ r'.after in cc)
    ] in
    let high' : b' ≤ b = elim (cases_lt b b') [
      | inr e ↦ e
      | inl lt ↦ absurd (let h : true ≡ false = sym (r'.within (b + 1) (omega arith) (omega arith)) ∙ r.after in cc)
    ] in
    (omega arith, omega arith)
