-- Where the lines that aren't digest lines stand.
use Rattle.std.proofs.Common.{◌≡◌, ◌≤◌, ◌<◌, ◌+◌, ◌-◌, ◌^◌, ℕ, Bool, true, false, nat_lt, suc, zero, List, [], ◌∷◌}
use Rattle.std.proofs.Common.{◌++◌}
use Rattle.std.proofs.Common.{length, cond, refl, sym, ◌∙◌, ap, subst, arith, inl, inr, ◌⊎◌}
use Rattle.std.proofs.Common.{if◌then◌else◌, slice_get}
use Rattle.std.proofs.lemmas.Bool.Decides.{nat_tests}
use Rattle.std.proofs.lemmas.List.{append-nil}
use Rattle.std.proofs.Common.{zero-add}
use Rattle.std.proofs.lemmas.List.Sums.{sum_by-cons}
use Rattle.std.specs.List.{count_by}
use Rattle.ps_keep.specs.Digests.{AreNumbered, is_digest_line, others, others_before}
use Rattle.ps_keep.proofs.DigestLemmas.{digest-cons, other-cons}

either : (b : Bool) → (b ≡ true) ⊎ (b ≡ false)
either true = inl refl
either false = inr refl

before_digest : (n : ℕ) (line : List ℕ) (lines : List (List ℕ)) → is_digest_line line ≡ true
    → others_before n (line ∷ lines) ≡ n ∷ others_before n lines
before_digest n line lines e = ap (λ (b : Bool). if b then n ∷ others_before n lines else others_before (n + 1) lines) e

before_other : (n : ℕ) (line : List ℕ) (lines : List (List ℕ)) → is_digest_line line ≡ false
    → others_before n (line ∷ lines) ≡ others_before (n + 1) lines
before_other n line lines e = ap (λ (b : Bool). if b then n ∷ others_before n lines else others_before (n + 1) lines) e

pub before-append : (n : ℕ) (a b : List (List ℕ)) → others_before n (a ++ b)
    ≡ others_before n a ++ others_before (n + length (others a)) b
before-append n [] b = let e : n ≡ n + 0 = omega arith in ap (λ (k : ℕ). others_before k b) e
before-append n (line ∷ a) b =
    let here = before-append n a b in
    let next = before-append (n + 1) a b in
    elim (either (is_digest_line line)) [
      | inl form ↦
          before_digest n line (a ++ b) form ∙ ap (λ (l : List ℕ). n ∷ l) here
          ∙ (λ i. sym (before_digest n line a form) i ++ others_before (n + length (sym (digest-cons line a form) i)) b)
      | inr form ↦
          let e : n + 1 + length (others a) ≡ n + length (line ∷ others a) = omega arith in
          before_other n line (a ++ b) form ∙ next
          ∙ ap (λ (k : ℕ). others_before (n + 1) a ++ others_before k b) e
          ∙ (λ i. sym (before_other n line a form) i ++ others_before (n + length (sym (other-cons line a form) i)) b)
    ]

pub numbers_digest : (before : List (List ℕ)) (line : List ℕ) → is_digest_line line ≡ true
    → others_before 0 (before ++ line ∷ []) ≡ others_before 0 before ++ length (others before) ∷ []
numbers_digest before line form =
    before-append 0 before (line ∷ [])
    ∙ ap (λ (l : List ℕ). others_before 0 before ++ l) (before_digest (0 + length (others before)) line [] form)
    ∙ ap (λ (k : ℕ). others_before 0 before ++ k ∷ []) (zero-add (length (others before)))

pub numbers_other : (before : List (List ℕ)) (line : List ℕ) → is_digest_line line ≡ false
    → others_before 0 (before ++ line ∷ []) ≡ others_before 0 before
numbers_other before line form =
    before-append 0 before (line ∷ [])
    ∙ ap (λ (l : List ℕ). others_before 0 before ++ l) (before_other (0 + length (others before)) line [] form)
    ∙ append-nil (others_before 0 before)

count_yes : (p : ℕ → Bool) (x : ℕ) (xs : List ℕ) → p x ≡ true → count_by p (x ∷ xs) ≡ 1 + count_by p xs
count_yes p x xs e = sum_by-cons (λ y. cond (p y) 1 0) x xs ∙ ap (λ (b : Bool). cond b 1 0 + count_by p xs) e

count_no : (p : ℕ → Bool) (x : ℕ) (xs : List ℕ) → p x ≡ false → count_by p (x ∷ xs) ≡ count_by p xs
count_no p x xs e = sum_by-cons (λ y. cond (p y) 1 0) x xs ∙ ap (λ (b : Bool). cond b 1 0 + count_by p xs) e
    ∙ zero-add (count_by p xs)

is_below : (a b : ℕ) → a < b → nat_lt a b ≡ true
is_below a b h = grind (arith, nat_tests)

not_below : (a b : ℕ) → b ≤ a → nat_lt a b ≡ false
not_below a b h = grind (arith, nat_tests)

-- each of them stands behind no fewer
none_below : (n k : ℕ) → k ≤ n → (lines : List (List ℕ)) → count_by (λ b. nat_lt b k) (others_before n lines) ≡ 0
none_below n k le [] = refl
none_below n k le (line ∷ lines) =
    let here = none_below n k le lines in
    let next = none_below (n + 1) k (omega arith) lines in
    elim (either (is_digest_line line)) [
      | inl form ↦ ap (count_by (λ b. nat_lt b k)) (before_digest n line lines form)
          ∙ count_no (λ b. nat_lt b k) n (others_before n lines) (not_below n k le) ∙ here
      | inr form ↦ ap (count_by (λ b. nat_lt b k)) (before_other n line lines form) ∙ next
    ]

-- so many digest lines stand before the other line at this place
abbrev pub passed : ℕ → ℕ → List (List ℕ) → ℕ
passed n m lines = count_by (λ b. nat_lt b (n + m + 1)) (others_before n lines)

pub place_of : (n m : ℕ) (lines : List (List ℕ)) → m < length (others lines)
    → slice_get lines (m + passed n m lines) ≡ slice_get (others lines) m
place_of n m [] below = absurd (omega arith)
place_of n m (line ∷ lines) below =
    elim (either (is_digest_line line)) [
      | inl form ↦ at_digest form (place_of n m lines)
      | inr form ↦ at_other m form below (λ k. place_of (n + 1) k lines)
    ]
  where
    at_digest : is_digest_line line ≡ true → (m < length (others lines)
        → slice_get lines (m + passed n m lines) ≡ slice_get (others lines) m)
        → slice_get (line ∷ lines) (m + passed n m (line ∷ lines)) ≡ slice_get (others (line ∷ lines)) m
    at_digest form more =
        let fewer : m < length (others lines) = subst (λ (l : List (List ℕ)). m < length l) (digest-cons line lines
        form) below in
        let counted : passed n m (line ∷ lines) ≡ 1 + passed n m lines = ap (count_by (λ b. nat_lt b (n + m + 1)))
        (before_digest n line lines form) ∙ count_yes (λ b. nat_lt b (n + m + 1)) n (others_before n lines) (is_below n
        (n + m + 1) (omega arith)) in
        let at : m + passed n m (line ∷ lines) ≡ suc (m + passed n m lines) = omega arith in
        ap (slice_get (line ∷ lines)) at ∙ more fewer ∙ ap (λ (l : List (List ℕ)). slice_get l m) (sym (digest-cons line
        lines form))

    at_other : (k : ℕ) → is_digest_line line ≡ false → k < length (others (line ∷ lines))
        → ((j : ℕ) → j < length (others lines)
        → slice_get lines (j + passed (n + 1) j lines) ≡ slice_get (others lines) j)
        → slice_get (line ∷ lines) (k + passed n k (line ∷ lines)) ≡ slice_get (others (line ∷ lines)) k
    at_other zero form here more =
        let counted : passed n 0 (line ∷ lines) ≡ 0 = ap (count_by (λ b. nat_lt b (n + 0 + 1))) (before_other n line
        lines form) ∙ none_below (n + 1) (n + 0 + 1) (omega arith) lines in
        let at : 0 + passed n 0 (line ∷ lines) ≡ 0 = omega arith in
        ap (slice_get (line ∷ lines)) at ∙ ap (λ (l : List (List ℕ)). slice_get l 0) (sym (other-cons line lines form))
    at_other (suc k) form here more =
        let fewer : suc k < length (line ∷ others lines) = subst (λ (l : List (List ℕ)). suc k < length l) (other-cons
        line lines form) here in
        let same : n + suc k + 1 ≡ n + 1 + k + 1 = omega arith in
        let counted : passed n (suc k) (line ∷ lines) ≡ passed (n + 1) k lines = ap (count_by (λ b. nat_lt b (n + suc k
        + 1))) (before_other n line lines form)
        ∙ ap (λ (t : ℕ). count_by (λ b. nat_lt b t) (others_before (n + 1) lines)) same in
        let at : suc k + passed n (suc k) (line ∷ lines) ≡ suc (k + passed (n + 1) k lines) = omega arith in
        ap (slice_get (line ∷ lines)) at ∙ more k (omega arith)
        ∙ ap (λ (l : List (List ℕ)). slice_get l (suc k)) (sym (other-cons line lines form))

within_of : (xs ys : List (List ℕ)) (i j : ℕ) → slice_get xs i ≡ slice_get ys j → j < length ys → i < length xs
within_of [] [] i j e below = absurd (omega arith)
within_of [] (y ∷ ys) i zero e below = absurd (cc)
within_of [] (y ∷ ys) i (suc j) e below = within_of [] ys i j e (omega arith)
within_of (x ∷ xs) ys zero j e below = omega arith
within_of (x ∷ xs) ys (suc i) j e below = let more = within_of xs ys i j e below in omega arith

-- the line of this number among the others has so many lines before it
pub place_in_file : (lines : List (List ℕ)) (before : List ℕ) (number passed_too found : ℕ) → AreNumbered lines before
    → 1 ≤ number → number ≤ length (others lines) → passed_too ≡ count_by (λ b. nat_lt b number) before
    → (number + passed_too < 2 ^ 64 → found ≡ number + passed_too)
    → slice_get lines (found - 1) ≡ slice_get (others lines) (number - 1)
place_in_file lines before number passed_too found are some below counts finds =
    let m : ℕ = number - 1 in
    let at : number ≡ 0 + m + 1 = omega arith in
    let there = place_of 0 m lines (omega arith) in
    let same : passed_too ≡ passed 0 m lines = counts ∙ ap (count_by (λ b. nat_lt b number)) are.is
    ∙ ap (λ (t : ℕ). count_by (λ b. nat_lt b t) (others_before 0 lines)) at in
    let inside = within_of lines (others lines) (m + passed 0 m lines) m there (omega arith) in
    let fits = are.fits in
    let is : found ≡ number + passed_too = finds (omega arith) in
    let place : found - 1 ≡ m + passed 0 m lines = omega arith in
    ap (slice_get lines) place ∙ there
