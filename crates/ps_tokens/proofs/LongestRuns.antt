-- The longest front of a text whose bytes pass a test.
use Rattle.std.proofs.Common.{◌≡◌, ℕ, zero, suc, ◌+◌, ◌<◌, ◌≤◌, Bool, true, false, cond, ◌&&◌, List, [], ◌∷◌, ◌++◌}
use Rattle.std.proofs.Common.{length, take, drop, refl, sym, ap, ◌∙◌, arith}
use Rattle.std.specs.Char.{is_ascii_digit, digit_value}
use Rattle.std.specs.List.{prefix_len, list_all}
use Rattle.std.specs.Str.Parse.{AllDigits}
use Rattle.std.proofs.lemmas.Bool.Decides.{nat_tests}
use Rattle.std.proofs.lemmas.List.{take_at, drop_at}
use Rattle.std.proofs.lemmas.List.Sums.{take_while-cons}
use Rattle.ps_tokens.specs.Inside.Lexing.{digits_at}

-- a text that does not go on with a byte that passes
abbrev pub Stops : (ℕ → Bool) → List ℕ → Type 0
Stops p [] = Unit {0}
Stops p (c ∷ s) = p c ≡ false

pub list_all-run : (p : ℕ → Bool) (s : List ℕ) → list_all p (take (prefix_len p s) s) ≡ true
list_all-run p [] = refl
list_all-run p (c ∷ s) =
    let others = list_all-run p s in
    ap (list_all p) (take_while-cons p c s)
    ∙ elim (p c) as (λ b. p c ≡ b → list_all p (cond b (c ∷ take (prefix_len p s) s) []) ≡ true) [
      | true ↦ λ e. ap (λ v. v && list_all p (take (prefix_len p s) s)) e ∙ others
      | false ↦ λ e. refl
    ] refl

-- the first of a list that passes, and the others
pub list_all_parts : (p : ℕ → Bool) (c : ℕ) (s : List ℕ) → list_all p (c ∷ s) ≡ true
    → (p c ≡ true) × (list_all p s ≡ true)
list_all_parts p c s h =
    elim (p c) as (λ b. p c ≡ b → (b && list_all p s) ≡ true → (p c ≡ true) × (list_all p s ≡ true)) [
      | true ↦ λ e k. (e, k)
      | false ↦ λ e k. cc
    ] refl h

-- a run that stops is the longest front
pub prefix_len-run : (p : ℕ → Bool) (w s : List ℕ) → list_all p w ≡ true → Stops p s
    → prefix_len p (w ++ s) ≡ length w
prefix_len-run p [] [] h k = refl
prefix_len-run p [] (c ∷ s) h k = ap (λ b. cond b (1 + prefix_len p s) 0) k
prefix_len-run p (c ∷ w) s h k =
    let parts = list_all_parts p c w h in
    ap (λ b. cond b (1 + prefix_len p (w ++ s)) 0) parts.0 ∙ omega (arith, prefix_len-run p w s parts.1 k)

pub take-run : (p : ℕ → Bool) (w s : List ℕ) → list_all p w ≡ true → Stops p s
    → take (prefix_len p (w ++ s)) (w ++ s) ≡ w
take-run p w s h k = take_at w s _ (sym (prefix_len-run p w s h k))

pub drop-run : (p : ℕ → Bool) (w s : List ℕ) → list_all p w ≡ true → Stops p s
    → drop (prefix_len p (w ++ s)) (w ++ s) ≡ s
drop-run p w s h k = drop_at w s _ (sym (prefix_len-run p w s h k))

-- a run that stops is also the longest front of the first bytes, where it has no more than these
prefix_len-short_run : (p : ℕ → Bool) (n : ℕ) (w s : List ℕ) → list_all p w ≡ true → Stops p s → length w ≤ n
    → prefix_len p (take n (w ++ s)) ≡ length w
prefix_len-short_run p zero [] s h k few = refl
prefix_len-short_run p zero (c ∷ w) s h k few = absurd (omega (arith, few))
prefix_len-short_run p (suc n) [] [] h k few = refl
prefix_len-short_run p (suc n) [] (c ∷ s) h k few = ap (λ b. cond b (1 + prefix_len p (take n s)) 0) k
prefix_len-short_run p (suc n) (c ∷ w) s h k few =
    let parts = list_all_parts p c w h in
    ap (λ b. cond b (1 + prefix_len p (take n (w ++ s))) 0) parts.0
    ∙ omega (arith, prefix_len-short_run p n w s parts.1 k (omega (arith, few)))

pub take-short_run : (p : ℕ → Bool) (n : ℕ) (w s : List ℕ) → list_all p w ≡ true → Stops p s → length w ≤ n
    → take (prefix_len p (take n (w ++ s))) (w ++ s) ≡ w
take-short_run p n w s h k few = take_at w s _ (sym (prefix_len-short_run p n w s h k few))

pub drop-short_run : (p : ℕ → Bool) (n : ℕ) (w s : List ℕ) → list_all p w ≡ true → Stops p s → length w ≤ n
    → drop (prefix_len p (take n (w ++ s))) (w ++ s) ≡ s
drop-short_run p n w s h k few = drop_at w s _ (sym (prefix_len-short_run p n w s h k few))

-- a digit has a value below ten, and only a digit has
pub digit_value-lt : (c : ℕ) → is_ascii_digit c ≡ true → digit_value c < 10
digit_value-lt c h = grind (arith, nat_tests)

pub AllDigits-from_test : (w : List ℕ) → list_all is_ascii_digit w ≡ true → AllDigits 10 w
AllDigits-from_test [] h = tt
AllDigits-from_test (c ∷ w) h =
    let parts = list_all_parts is_ascii_digit c w h in
    (digit_value-lt c parts.0, AllDigits-from_test w parts.1)

-- what the code knows of the runs that it cut off
pub AllDigits-digits_at : (s : List ℕ) → AllDigits 10 (take (digits_at s) s)
AllDigits-digits_at s = AllDigits-from_test _ (list_all-run is_ascii_digit s)
