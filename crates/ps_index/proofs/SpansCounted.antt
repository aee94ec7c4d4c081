-- Spans that stand in a list, and how often.
use Rattle.std.proofs.Common.{◌≡◌, ℕ, suc, ◌+◌, ◌<◌, ◌≤◌, inl, inr, ◌∙◌, ap, refl, arith, cond, nat_le, Bool, true}
use Rattle.std.proofs.Common.{false, List, [], ◌∷◌, length, get_or, zero, ◌==◌, ◌||◌, ◌&&◌, take, drop}
use Rattle.std.specs.List.{sum_by}
use Rattle.std.proofs.lemmas.List.{get_or-take, get_or-drop, length-take-le, length-drop}
use Rattle.std.proofs.lemmas.List.Sums.{sum_by-cons, get_or-le-sum_by, sum_by-take-drop}
use Rattle.std.proofs.lemmas.Bool.Decides.{nat_tests}
use Rattle.ps_index.specs.declared.span.Span.{Span}
use Rattle.ps_index.specs.Inside.Dues.{one_if}
use Rattle.ps_index.specs.Spans.{cell_of, count_of, holds, refers_at, same_span}
use Rattle.ps_index.proofs.BoolTests.{and_true, both, or_true, true_or_false}

abbrev span : ℕ → ℕ → ℕ → Span
span f t c = record { from = f; to = t; cell = c }

pub same_fields : (a b : Span) → a.from ≡ b.from → a.to ≡ b.to → a.cell ≡ b.cell → a ≡ b
same_fields a b f t c = ap (λ n. span n a.to a.cell) f ∙ ap (λ n. span b.from n a.cell) t
    ∙ ap (λ n. span b.from b.to n) c

pub same_span-true : (x s : Span) → same_span x s ≡ true → s ≡ x
same_span-true x s e = same_fields s x (grind (arith, nat_tests, e)) (grind (arith, nat_tests, e))
    (grind (arith, nat_tests, e))

pub not_counted : (b : Bool) → b ≡ false → one_if b ≡ 0
not_counted b e = rw e refl

pub count_skips : (x s : Span) (spans : List Span) → same_span x s ≡ false → count_of x (s ∷ spans) ≡ count_of x spans
count_skips x s spans e =
    let step : count_of x (s ∷ spans) ≡ cond (same_span x s) 1 0 + count_of x spans =
    sum_by-cons (λ y. cond (same_span x y) 1 0) s spans in
    omega (arith, step, not_counted (same_span x s) e)

-- a span that is counted stands somewhere
pub is_there : (x : Span) (spans : List Span) → 0 < count_of x spans → (i : ℕ) × (i < length spans)
    × ((d : Span) → get_or spans i d ≡ x)
is_there x [] some = absurd (omega arith)
is_there x (s ∷ spans) some = elim (true_or_false (same_span x s)) [
  | inl e ↦ (0, omega arith, λ (d : Span). same_span-true x s e)
  | inr e ↦ (let step : count_of x (s ∷ spans) ≡ count_of x spans = count_skips x s spans e in
      let found : (i : ℕ) × (i < length spans) × ((d : Span) → get_or spans i d ≡ x) = is_there x spans (omega arith) in
      (suc found.0, omega arith, found.2))
]

pub holds_both : (s : Span) (y : ℕ) → holds s y ≡ true → (s.from ≤ y) × (y ≤ s.to)
holds_both s y e = (grind (arith, nat_tests, e), grind (arith, nat_tests, e))

pub holds_at : (s : Span) (y : ℕ) → s.from ≤ y → y ≤ s.to → holds s y ≡ true
holds_at s y lo hi = and_true (nat_le s.from y) (nat_le y s.to) (grind (arith, nat_tests, lo))
    (grind (arith, nat_tests, hi))

pub same_self : (s : Span) → same_span s s ≡ true
same_self s = and_true _ (s.cell == s.cell)
    (and_true (s.from == s.from) (s.to == s.to) (grind (arith, nat_tests)) (grind (arith, nat_tests)))
    (grind (arith, nat_tests))

pub one_there : (spans : List Span) (i : ℕ) (d : Span) → i < length spans → 0 < count_of (get_or spans i d) spans
one_there spans i d lt =
    let s = get_or spans i d in
    let le : one_if (same_span s s) ≤ count_of s spans =
    get_or-le-sum_by (λ x. cond (same_span s x) 1 0) spans i d lt in
    let one : one_if (same_span s s) ≡ 1 = rw (same_self s) refl in
    omega (arith, le, one)

pub two_there : (spans : List Span) (i j : ℕ) (d : Span) → i < j → j < length spans
    → get_or spans j d ≡ get_or spans i d → 2 ≤ count_of (get_or spans i d) spans
two_there spans i j d lt within same =
    let s = get_or spans i d in
    let f : Span → ℕ = λ x. cond (same_span s x) 1 0 in
    let one : f s ≡ 1 = (let e : same_span s s ≡ true = same_self s in rw e refl) in
    let left : f (get_or (take j spans) i d) ≤ sum_by f (take j spans) =
    get_or-le-sum_by f (take j spans) i d (omega (arith, length-take-le j spans (omega arith))) in
    let left' : f (get_or (take j spans) i d) ≡ f s = ap f (get_or-take j spans i d lt) in
    let right : f (get_or (drop j spans) 0 d) ≤ sum_by f (drop j spans) =
    get_or-le-sum_by f (drop j spans) 0 d (omega (arith, length-drop j spans)) in
    let right' : f (get_or (drop j spans) 0 d) ≡ f s =
    ap f (get_or-drop j spans 0 d ∙ ap (λ n. get_or spans n d) (let e : j + 0 ≡ j = omega arith in e) ∙ same) in
    omega (arith, one, left, left', right, right', sum_by-take-drop f spans j)

pub refers_at-some : (spans : List Span) (y c : ℕ) → refers_at spans y c ≡ true
    → (i : ℕ) × (i < length spans) × ((d : Span) → (holds (get_or spans i d) y ≡ true) × (cell_of spans i d ≡ c))
refers_at-some [] y c e = absurd (cc)
refers_at-some (s ∷ spans) y c e = elim (true_or_false ((s.cell == c) && holds s y)) [
  | inl here ↦ (let b : ((s.cell == c) ≡ true) × (holds s y ≡ true) = both (s.cell == c) (holds s y) here in
      (0, omega arith, λ (d : Span). (b.1, grind (arith, nat_tests, b.0))))
  | inr skip ↦ (let more : refers_at spans y c ≡ true =
      (let h : (((s.cell == c) && holds s y) || refers_at spans y c) ≡ true = e in let h' = rw skip at h in h') in
      let found : (i : ℕ) × (i < length spans)
      × ((d : Span) → (holds (get_or spans i d) y ≡ true) × (cell_of spans i d ≡ c)) =
      refers_at-some spans y c more in
      (suc found.0, omega arith, found.2))
]

pub refers_at-true : (spans : List Span) (y c i : ℕ) → i < length spans
    → ((d : Span) → (holds (get_or spans i d) y ≡ true) × (cell_of spans i d ≡ c)) → refers_at spans y c ≡ true
refers_at-true [] y c i lt at = absurd (omega arith)
refers_at-true (s ∷ spans) y c zero lt at =
    let same : (s.cell == c) ≡ true = (let e : s.cell ≡ c = (at s).1 in grind (arith, nat_tests, e)) in
    let has : holds s y ≡ true = (at s).0 in
    rw (same, has) refl
refers_at-true (s ∷ spans) y c (suc i) lt at =
    let more : refers_at spans y c ≡ true = refers_at-true spans y c i (omega arith) at in
    rw more (or_true ((s.cell == c) && holds s y))
