-- Runs of rows, and the runs of places that they are.
use Rattle.std.proofs.Common.{◌≡◌, ℕ, zero, suc, ◌+◌, ◌-◌, ◌*◌, ◌%◌, ◌<◌, ◌≤◌, inl, inr, sym, ◌∙◌, ap, refl, arith}
use Rattle.std.proofs.Common.{nat_le, Bool, true, false, not, ◌&&◌, List}
use Rattle.std.specs.List.{list_all, range_with_len}
use Rattle.std.proofs.lemmas.Bool.{cases_lt}
use Rattle.std.proofs.lemmas.Bool.Decides.{nat_tests}
use Rattle.ps_grid.specs.Rectangle.{Area}
use Rattle.ps_grid.specs.declared.size.TheConstants.{ROWS}
use Rattle.ps_index.specs.declared.runs.TheConstants.{STRIDE}
use Rattle.ps_index.proofs.PlacesCovered.{IsPlaceRun, covered-row}
use Rattle.ps_index.proofs.RunsOfNumbers.{IsRun}
use Rattle.ps_index.specs.Inside.Dues.{covered_row}
use Rattle.ps_index.specs.Inside.Places.{covered}
use Rattle.ps_index.specs.Stands.{is_run}
use Rattle.ps_index.proofs.BoolTests.{and_true, bool_same, both, never_true, not_false, not_true}

all-at : (n : ℕ) (test : ℕ → Bool) (y : ℕ) → list_all test (range_with_len y n) ≡ true → (q : ℕ) → y ≤ q → q < y + n
    → test q ≡ true
all-at zero test y e q from to = absurd (omega arith)
all-at (suc n) test y e q from to =
    let b : (test y ≡ true) × (list_all test (range_with_len (y + 1) n) ≡ true) =
    both (test y) (list_all test (range_with_len (y + 1) n)) e in
    elim (cases_lt y q) [
      | inl lt ↦ all-at n test (y + 1) b.1 q (omega arith) (omega arith)
      | inr ge ↦ (let same : q ≡ y = omega arith in rw same b.0)
    ]

all-true : (n : ℕ) (test : ℕ → Bool) (y : ℕ) → ((q : ℕ) → y ≤ q → q < y + n → test q ≡ true)
    → list_all test (range_with_len y n) ≡ true
all-true zero test y all = refl
all-true (suc n) test y all =
    let first : test y ≡ true = all y (omega arith) (omega arith) in
    rw first (all-true n test (y + 1) (λ (q : ℕ) (from : y + 1 ≤ q) (to : q < y + 1 + n).
    all q (omega arith) (omega arith)))

pub is_run-at : (test : ℕ → Bool) (from to : ℕ) → is_run test from to ≡ true → IsRun test from to
unfolding is_run
is_run-at test from to e =
    let b = both (nat_le from to && list_all test (range_with_len from (to + 1 - from)) && not (test (from - 1)))
    (not (test (to + 1))) e in
    let b' = both (nat_le from to && list_all test (range_with_len from (to + 1 - from))) (not (test (from - 1))) b.0 in
    let b'' = both (nat_le from to) (list_all test (range_with_len from (to + 1 - from))) b'.0 in
    let le : from ≤ to = grind (arith, nat_tests, b''.0) in
    record {
      ordered = le;
      within = λ (y : ℕ) (lo : from ≤ y) (hi : y ≤ to). all-at (to + 1 - from) test from b''.1 y lo (omega arith);
      before = not_true (test (from - 1)) b'.1;
      after = not_true (test (to + 1)) b.1;
    }

pub is_run-true : (test : ℕ → Bool) (from to : ℕ) → IsRun test from to → is_run test from to ≡ true
unfolding is_run
is_run-true test from to r =
    let le : nat_le from to ≡ true = grind (arith, nat_tests, r.ordered) in
    let all : list_all test (range_with_len from (to + 1 - from)) ≡ true = all-true (to + 1 - from) test from
    (λ (q : ℕ) (lo : from ≤ q) (hi : q < from + (to + 1 - from)). r.within q lo (omega (arith, r.ordered))) in
    and_true _ (not (test (to + 1))) (and_true _ (not (test (from - 1))) (and_true (nat_le from to) _ le all)
    (not_false _ r.before)) (not_false _ r.after)

pub is_run-same : (p q : ℕ → Bool) (from to : ℕ) → ((y : ℕ) → p y ≡ q y) → is_run p from to ≡ is_run q from to
is_run-same p q from to same = bool_same (is_run p from to) (is_run q from to)
    (λ (e : is_run p from to ≡ true). let r = is_run-at p from to e in is_run-true q from to (record {
      ordered = r.ordered;
      within = λ (y : ℕ) (lo : from ≤ y) (hi : y ≤ to). sym (same y) ∙ r.within y lo hi;
      before = sym (same (from - 1)) ∙ r.before;
      after = sym (same (to + 1)) ∙ r.after;
    }))
    (λ (e : is_run q from to ≡ true). let r = is_run-at q from to e in is_run-true p from to (record {
      ordered = r.ordered;
      within = λ (y : ℕ) (lo : from ≤ y) (hi : y ≤ to). same y ∙ r.within y lo hi;
      before = same (from - 1) ∙ r.before;
      after = same (to + 1) ∙ r.after;
    }))

pub covered_row-at : (rects : List Area) (k y : ℕ) → covered_row rects k y ≡ true → (1 ≤ y) × (y ≤ ROWS)
    × (covered rects (k * STRIDE + y) ≡ true)
unfolding covered_row
covered_row-at rects k y e =
    let b = both (nat_le 1 y && nat_le y ROWS) (covered rects (k * STRIDE + y)) e in
    let b' = both (nat_le 1 y) (nat_le y ROWS) b.0 in
    (grind (arith, nat_tests, b'.0), grind (arith, nat_tests, b'.1), b.1)

pub covered_row-true : (rects : List Area) (k y : ℕ) → 1 ≤ y → y ≤ ROWS → covered rects (k * STRIDE + y) ≡ true
    → covered_row rects k y ≡ true
unfolding covered_row
covered_row-true rects k y some small e =
    let l : nat_le 1 y ≡ true = grind (arith, nat_tests, some) in
    let r : nat_le y ROWS ≡ true = grind (arith, nat_tests, small) in
    and_true _ (covered rects (k * STRIDE + y)) (and_true (nat_le 1 y) (nat_le y ROWS) l r) e

-- in a column, a row before the first and one after the last are places that nothing covers
row_place : (rects : List Area) (k y : ℕ) → y ≤ ROWS + 1 → covered_row rects k y ≡ false
    → covered rects (k * STRIDE + y) ≡ false
row_place rects k y small e =
    never_true (covered rects (k * STRIDE + y)) (λ (h : covered rects (k * STRIDE + y) ≡ true).
    let some : 1 ≤ (k * STRIDE + y) % STRIDE = covered-row rects (k * STRIDE + y) h in
    let yes' : covered_row rects k y ≡ true = covered_row-true rects k y (omega arith) (omega arith) h in
    let both_ways : true ≡ false = sym yes' ∙ e in cc)

pub place_run : (rects : List Area) (k from to : ℕ) → IsRun (covered_row rects k) from to
    → (1 ≤ from) × (to ≤ ROWS) × IsPlaceRun rects (k * STRIDE + from) (k * STRIDE + to)
place_run rects k from to r =
    let first = covered_row-at rects k from (r.within from (omega arith) r.ordered) in
    let last = covered_row-at rects k to (r.within to r.ordered (omega arith)) in (
      first.0,
      last.1,
      record {
        ordered = omega (arith, r.ordered);
        within = λ (q : ℕ) (lo : k * STRIDE + from ≤ q) (hi : q ≤ k * STRIDE + to).
            let e : k * STRIDE + (q - k * STRIDE) ≡ q = omega arith in
            let h = covered_row-at rects k (q - k * STRIDE) (r.within (q - k * STRIDE) (omega arith) (omega arith)) in
            sym (ap (λ n. covered rects n) e) ∙ h.2;
        before = let e : k * STRIDE + from - 1 ≡ k * STRIDE + (from - 1) = omega (arith, first.0) in
            ap (λ n. covered rects n) e ∙ row_place rects k (from - 1) (omega (arith, last.1, r.ordered)) r.before;
        after = let e : k * STRIDE + to + 1 ≡ k * STRIDE + (to + 1) = omega arith in
            ap (λ n. covered rects n) e ∙ row_place rects k (to + 1) (omega (arith, last.1)) r.after;
      },
    )
