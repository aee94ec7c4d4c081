-- One more item in a summary.
use Rattle.std.proofs.Common.{◌≡◌, ℕ, ◌+◌, List, [], ◌∷◌, ◌++◌, length, Option, Some, Ok, Err, ℤ, pos}
use Rattle.std.proofs.Common.{◌+ℤ◌, refl, ap, ◌∙◌, arith, length-append}
use Rattle.std.specs.List.{list_all, list_any}
use Rattle.std.proofs.Math.Bool.{and-true, or-false}
use Rattle.std.proofs.lemmas.List.Folds.{list_all-append, list_any-append}
use Rattle.std.specs.Prelude.{not, ◌&&◌, ◌||◌}
use Rattle.std.specs.Int.{int_min, int_max}
use Rattle.std.specs.Option.{option_or}
use Rattle.std.proofs.lemmas.List.Sums.{fold-append}
use Rattle.std.proofs.lemmas.Bool.{cond_both, lt-ltb, ltb-false, ltb-true}
use Rattle.std.proofs.lemmas.Int.{ints, clamps, fold-int_min_bounds, fold-int_max_bounds}
use Rattle.std.proofs.Common.{◌-◌, ◌^◌, ◌≤◌, ◌≢◌, ◌≤ℤ◌, sym, true, fold, negsuc, FitsSigned, w64}
use Rattle.std.specs.Prelude.{nat_lt, is_some, None, Bool, false, unsigned_abs, ◌*◌, ◌<ℤ◌, ◌-ℤ◌}
use Rattle.ps_eval.specs.Summarized.{AreKnown, lowest_of, highest_of}
use Rattle.ps_value.specs.declared.value.Fault.{Fault}
use Rattle.ps_eval.specs.Number.{Number, is_zero, in_range}
use Rattle.ps_eval.specs.Items.{numbers_in, first_fault, total, least, greatest}

pub numbers_in-append : (xs ys : List Number) → numbers_in (xs ++ ys) ≡ numbers_in xs ++ numbers_in ys
numbers_in-append [] ys = refl
numbers_in-append (Ok n ∷ xs) ys = ap (λ ns. n ∷ ns) (numbers_in-append xs ys)
numbers_in-append (Err fault ∷ xs) ys = numbers_in-append xs ys

pub first_fault-number : (xs : List Number) (n : ℤ) → first_fault (xs ++ Ok n ∷ []) ≡ first_fault xs
first_fault-number [] n = refl
first_fault-number (Ok m ∷ xs) n = first_fault-number xs n
first_fault-number (Err fault ∷ xs) n = refl

pub first_fault-fault : (xs : List Number) (fault : Fault)
    → first_fault (xs ++ Err fault ∷ []) ≡ option_or (first_fault xs) (Some fault)
first_fault-fault [] fault = refl
first_fault-fault (Ok m ∷ xs) fault = first_fault-fault xs fault
first_fault-fault (Err first ∷ xs) fault = refl

pub total-push : (ns : List ℤ) (n : ℤ) → total (ns ++ n ∷ []) ≡ total ns +ℤ n
total-push ns n = fold-append ◌+ℤ◌ (pos 0) ns (n ∷ [])

-- ---- the same of the numbers among items

pub counted_more : (items : List Number) (n : ℤ)
    → length (numbers_in (items ++ Ok n ∷ [])) ≡ length (numbers_in items) + 1
counted_more items n = ap length (numbers_in-append items (Ok n ∷ [])) ∙ length-append (numbers_in items) (n ∷ [])

pub summed_more : (items : List Number) (n : ℤ)
    → total (numbers_in (items ++ Ok n ∷ [])) ≡ total (numbers_in items) +ℤ n
summed_more items n = ap total (numbers_in-append items (Ok n ∷ [])) ∙ total-push (numbers_in items) n

pub every_more : (items : List Number) (n : ℤ) →
    list_all (λ k. not (is_zero k)) (numbers_in (items ++ Ok n ∷ [])) ≡
    (list_all (λ k. not (is_zero k)) (numbers_in items) && not (is_zero n))
every_more items n =
    ap (list_all (λ k. not (is_zero k))) (numbers_in-append items (Ok n ∷ []))
    ∙ list_all-append (λ k. not (is_zero k)) (numbers_in items) (n ∷ [])
    ∙ ap (λ b. list_all (λ k. not (is_zero k)) (numbers_in items) && b) (and-true (not (is_zero n)))

pub some_more : (items : List Number) (n : ℤ) →
    list_any (λ k. not (is_zero k)) (numbers_in (items ++ Ok n ∷ [])) ≡
    (list_any (λ k. not (is_zero k)) (numbers_in items) || not (is_zero n))
some_more items n =
    ap (list_any (λ k. not (is_zero k))) (numbers_in-append items (Ok n ∷ []))
    ∙ list_any-append (λ k. not (is_zero k)) (numbers_in items) (n ∷ [])
    ∙ ap (λ b. list_any (λ k. not (is_zero k)) (numbers_in items) || b) (or-false (not (is_zero n)))

-- a fault is no number
pub numbers_in-fault : (items : List Number) (fault : Fault) → numbers_in (items ++ Err fault ∷ []) ≡ numbers_in items
numbers_in-fault [] fault = refl
numbers_in-fault (Ok n ∷ items) fault = ap (λ ns. n ∷ ns) (numbers_in-fault items fault)
numbers_in-fault (Err first ∷ items) fault = numbers_in-fault items fault

-- ---- the least and the greatest

pub lowest_more : (items : List Number) (n : ℤ)
    → lowest_of (numbers_in (items ++ Ok n ∷ [])) ≡ int_min (lowest_of (numbers_in items)) n
lowest_more items n =
    ap lowest_of (numbers_in-append items (Ok n ∷ []))
    ∙ fold-append int_min (pos (2 ^ 63 - 1)) (numbers_in items) (n ∷ [])

pub highest_more : (items : List Number) (n : ℤ)
    → highest_of (numbers_in (items ++ Ok n ∷ [])) ≡ int_max (highest_of (numbers_in items)) n
highest_more items n =
    ap highest_of (numbers_in-append items (Ok n ∷ []))
    ∙ fold-append int_max (negsuc (2 ^ 63 - 1)) (numbers_in items) (n ∷ [])

in_range-fits : (n : ℤ) → FitsSigned w64 n → in_range n ≡ true
in_range-fits (pos k) fits = lt-ltb k (2 ^ 63) (omega (arith, ints, fits))
in_range-fits (negsuc k) fits = lt-ltb k (2 ^ 63) (omega (arith, ints, fits))

pub ranged_more : (items : List Number) (n : ℤ) → FitsSigned w64 n → list_all in_range (numbers_in items) ≡ true
    → list_all in_range (numbers_in (items ++ Ok n ∷ [])) ≡ true
ranged_more items n fits ranged =
    ap (list_all in_range) (numbers_in-append items (Ok n ∷ []))
    ∙ list_all-append in_range (numbers_in items) (n ∷ [])
    ∙ (λ i. ranged i && (and-true (in_range n) ∙ in_range-fits n fits) i)

least_first : (n : ℤ) → in_range n ≡ true → int_min (pos (2 ^ 63 - 1)) n ≡ n
least_first (negsuc k) h = refl
least_first (pos k) h =
    let b = ltb-true k (2 ^ 63) h in
    cond_both (nat_lt k (2 ^ 63 - 1)) (pos k) (pos (2 ^ 63 - 1)) (λ x. x ≡ pos k) (λ e. refl)
    (λ e. ap pos (let a = ltb-false k (2 ^ 63 - 1) e in omega (arith, a, b)))

greatest_first : (n : ℤ) → in_range n ≡ true → int_max (negsuc (2 ^ 63 - 1)) n ≡ n
greatest_first (pos k) h = refl
greatest_first (negsuc k) h =
    let b = ltb-true k (2 ^ 63) h in
    cond_both (nat_lt (2 ^ 63 - 1) k) (negsuc (2 ^ 63 - 1)) (negsuc k) (λ x. x ≡ negsuc k)
    (λ e. absurd (let a = ltb-true (2 ^ 63 - 1) k e in omega (arith, a, b))) (λ e. refl)

head_ranged : (n : ℤ) (ns : List ℤ) → list_all in_range (n ∷ ns) ≡ true → in_range n ≡ true
head_ranged n ns h = grind arith

-- of some numbers the least is the lowest
pub least_is : (ns : List ℤ) → length ns ≢ 0 → list_all in_range ns ≡ true → lowest_of ns ≡ least ns
least_is [] some ranged = absurd (some refl)
least_is (n ∷ ns) some ranged = ap (λ m. fold int_min m ns) (least_first n (head_ranged n ns ranged))

pub greatest_is : (ns : List ℤ) → length ns ≢ 0 → list_all in_range ns ≡ true → highest_of ns ≡ greatest ns
greatest_is [] some ranged = absurd (some refl)
greatest_is (n ∷ ns) some ranged = ap (λ m. fold int_max m ns) (greatest_first n (head_ranged n ns ranged))

pub least_of_none : (ns : List ℤ) → length ns ≡ 0 → least ns ≡ pos 0
least_of_none [] none = refl
least_of_none (n ∷ ns) none = absurd (omega (arith, none))

pub greatest_of_none : (ns : List ℤ) → length ns ≡ 0 → greatest ns ≡ pos 0
greatest_of_none [] none = refl
greatest_of_none (n ∷ ns) none = absurd (omega (arith, none))

-- ---- items after others

pub first_fault-append : (xs ys : List Number) → first_fault (xs ++ ys) ≡ option_or (first_fault xs) (first_fault ys)
first_fault-append [] ys = refl
first_fault-append (Ok n ∷ xs) ys = first_fault-append xs ys
first_fault-append (Err fault ∷ xs) ys = refl

total_from : (a : ℤ) (ns : List ℤ) → fold ◌+ℤ◌ a ns ≡ a +ℤ total ns
total_from a [] = omega (arith, ints)
total_from a (n ∷ ns) =
    let p = total_from (a +ℤ n) ns in
    let q = total_from (pos 0 +ℤ n) ns in
    omega (arith, ints, p, q)

pub total-append : (ns ms : List ℤ) → total (ns ++ ms) ≡ total ns +ℤ total ms
total-append ns ms = fold-append ◌+ℤ◌ (pos 0) ns ms ∙ total_from (total ns) ms

lowest_from : (a : ℤ) (ns : List ℤ) → a ≤ℤ pos (2 ^ 63 - 1) → fold int_min a ns ≡ int_min a (lowest_of ns)
lowest_from a [] h = omega (arith, ints, clamps)
lowest_from a (n ∷ ns) h =
    let p = lowest_from (int_min a n) ns (omega (arith, ints, clamps)) in
    let q = lowest_from (int_min (pos (2 ^ 63 - 1)) n) ns (omega (arith, ints, clamps)) in
    p ∙ omega (arith, ints, clamps) ∙ ap (int_min a) (sym q)

pub lowest-append : (ns ms : List ℤ) → lowest_of (ns ++ ms) ≡ int_min (lowest_of ns) (lowest_of ms)
lowest-append ns ms =
    let low = fold-int_min_bounds (pos (2 ^ 63 - 1)) ns (lowest_of ns) refl in
    fold-append int_min (pos (2 ^ 63 - 1)) ns ms ∙ lowest_from (lowest_of ns) ms low.0

highest_from : (a : ℤ) (ns : List ℤ) → negsuc (2 ^ 63 - 1) ≤ℤ a → fold int_max a ns ≡ int_max a (highest_of ns)
highest_from a [] h = omega (arith, ints, clamps)
highest_from a (n ∷ ns) h =
    let p = highest_from (int_max a n) ns (omega (arith, ints, clamps)) in
    let q = highest_from (int_max (negsuc (2 ^ 63 - 1)) n) ns (omega (arith, ints, clamps)) in
    p ∙ omega (arith, ints, clamps) ∙ ap (int_max a) (sym q)

pub highest-append : (ns ms : List ℤ) → highest_of (ns ++ ms) ≡ int_max (highest_of ns) (highest_of ms)
highest-append ns ms =
    let high = fold-int_max_bounds (negsuc (2 ^ 63 - 1)) ns (highest_of ns) refl in
    fold-append int_max (negsuc (2 ^ 63 - 1)) ns ms ∙ highest_from (highest_of ns) ms high.0

-- what is known of items, and of others after them, tells what is known of all of them
pub known-append : (items others : List Number) {n m k : ℕ} {a b c low low' lowest high high' highest : ℤ}
    {f g first : Option Fault}
    → AreKnown items n a low high f → AreKnown others m b low' high' g
    → k ≡ n + m → c ≡ a +ℤ b → lowest ≡ int_min low low' → highest ≡ int_max high high' → first ≡ option_or f g
    → AreKnown (items ++ others) k c lowest highest first
known-append items others s t count_is sum_is lowest_is highest_is first_is =
    let ns = numbers_in items in
    let ms = numbers_in others in
    let both = numbers_in-append items others in
    record {
      counted = count_is ∙ (λ i. s.counted i + t.counted i) ∙ sym (ap length both ∙ length-append ns ms);
      summed = sum_is ∙ (λ i. s.summed i +ℤ t.summed i) ∙ sym (ap total both ∙ total-append ns ms);
      lowest = lowest_is ∙ (λ i. int_min (s.lowest i) (t.lowest i)) ∙ sym (ap lowest_of both ∙ lowest-append ns ms);
      highest = highest_is ∙ (λ i. int_max (s.highest i) (t.highest i))
          ∙ sym (ap highest_of both ∙ highest-append ns ms);
      first = first_is ∙ (λ i. option_or (s.first i) (t.first i)) ∙ sym (first_fault-append items others);
      ranged = ap (list_all in_range) both ∙ list_all-append in_range ns ms ∙ (λ i. s.ranged i && t.ranged i);
    }

-- there are no more numbers than items
pub fewer_numbers : (items : List Number) → length (numbers_in items) ≤ length items
fewer_numbers [] = omega arith
fewer_numbers (Ok n ∷ items) = let p = fewer_numbers items in omega (arith, p)
fewer_numbers (Err fault ∷ items) = let p = fewer_numbers items in omega (arith, p)

-- ---- one item less, and one among others

-- the sum of 64-bit numbers is bounded by how many there are
pub total_bounded : (ns : List ℤ) → list_all in_range ns ≡ true → unsigned_abs (total ns) ≤ length ns * 2 ^ 63
total_bounded [] h = omega (arith, ints)
total_bounded (n ∷ ns) h =
    let first = head_ranged n ns h in
    let rest = total_bounded ns (tail_ranged n ns h) in
    let more = total_from (pos 0 +ℤ n) ns in
    let small = range_bounded n first in
    omega (arith, ints, rest, more, small)
  where
    tail_ranged : (n : ℤ) (ns : List ℤ) → list_all in_range (n ∷ ns) ≡ true → list_all in_range ns ≡ true
    tail_ranged n ns h = grind arith

    range_bounded : (n : ℤ) → in_range n ≡ true → unsigned_abs n ≤ 2 ^ 63
    range_bounded (pos k) h = let b = ltb-true k (2 ^ 63) h in omega (arith, ints, b)
    range_bounded (negsuc k) h = let b = ltb-true k (2 ^ 63) h in omega (arith, ints, b)

without_middle : (x y z : Bool) → (x && (y && z)) ≡ true → (x && z) ≡ true
without_middle true true z h = h
without_middle true false z h = absurd (let e : false ≡ true = h in cc)
without_middle false y z h = absurd (let e : false ≡ true = h in cc)

-- a number among items counts
pub counted_among : (front : List Number) (n : ℤ) (back : List Number) → 1 ≤ length (numbers_in (front ++ Ok n ∷ back))
counted_among front n back =
    let all = ap length (numbers_in-append front (Ok n ∷ back))
    ∙ length-append (numbers_in front) (n ∷ numbers_in back) in
    omega (arith, all)

-- without one of the numbers that is neither the least nor the greatest
pub known-less : (front back : List Number) (n : ℤ) (m : ℕ) (b : ℤ) {k : ℕ} {a low high : ℤ} {f : Option Fault}
    → AreKnown (front ++ Ok n ∷ back) k a low high f → low <ℤ n → n <ℤ high
    → m + 1 ≡ k → b ≡ a -ℤ n
    → AreKnown (front ++ back) m b low high f
known-less front back n m b s above below count_is sum_is =
    let ns = numbers_in front in
    let ms = numbers_in back in
    let all = numbers_in-append front (Ok n ∷ back) in
    let rest = numbers_in-append front back in
    let count = ap length all ∙ length-append ns (n ∷ ms) in
    let sum = ap total all ∙ total-append ns (n ∷ ms) in
    let sum_back = total-append (n ∷ []) ms in
    let low_all = ap lowest_of all ∙ lowest-append ns (n ∷ ms) in
    let low_back = lowest-append (n ∷ []) ms in
    let low_most = (fold-int_min_bounds (pos (2 ^ 63 - 1)) ms (lowest_of ms) refl).0 in
    let high_all = ap highest_of all ∙ highest-append ns (n ∷ ms) in
    let high_back = highest-append (n ∷ []) ms in
    let high_most = (fold-int_max_bounds (negsuc (2 ^ 63 - 1)) ms (highest_of ms) refl).0 in
    let parts = sym (list_all-append in_range ns (n ∷ ms)) ∙ sym (ap (list_all in_range) all) ∙ s.ranged in
    record {
      counted = omega (arith, s.counted, count) ∙ sym (ap length rest ∙ length-append ns ms);
      summed = omega (arith, ints, s.summed, sum, sum_back, sum_is) ∙ sym (ap total rest ∙ total-append ns ms);
      lowest = omega (arith, ints, clamps, s.lowest, low_all, low_back, low_most, above)
          ∙ sym (ap lowest_of rest ∙ lowest-append ns ms);
      highest = omega (arith, ints, clamps, s.highest, high_all, high_back, high_most, below)
          ∙ sym (ap highest_of rest ∙ highest-append ns ms);
      first = s.first ∙ first_fault-append front (Ok n ∷ back) ∙ sym (first_fault-append front back);
      ranged = ap (list_all in_range) rest ∙ list_all-append in_range ns ms
          ∙ without_middle (list_all in_range ns) (in_range n) (list_all in_range ms) parts;
    }

-- items after others, or among them where there is no fault
pub known-among : (front middle back : List Number) {k : ℕ} {a low high : ℤ} {f : Option Fault}
    → AreKnown ((front ++ back) ++ middle) k a low high f → first_fault (front ++ back) ≡ None
    → AreKnown (front ++ middle ++ back) k a low high f
known-among front middle back s none =
    let ns = numbers_in front in
    let ls = numbers_in middle in
    let ms = numbers_in back in
    let after = numbers_in-append (front ++ back) middle ∙ ap (λ xs. xs ++ ls) (numbers_in-append front back) in
    let among = numbers_in-append (front ++ middle) back ∙ ap (λ xs. xs ++ ms) (numbers_in-append front middle) in
    let count = length-append (ns ++ ms) ls in
    let sum = total-append (ns ++ ms) ls in
    let low_all = lowest-append (ns ++ ms) ls in
    let high_all = highest-append (ns ++ ms) ls in
    record {
      counted = s.counted ∙ ap length after ∙ omega (
        arith,
        count,
        length-append ns ms,
        length-append (ns ++ ls) ms,
        length-append ns ls,
      ) ∙ sym (ap length among);
      summed = s.summed ∙ ap total after ∙ omega (
        arith,
        ints,
        sum,
        total-append ns ms,
        total-append (ns ++ ls) ms,
        total-append ns ls,
      ) ∙ sym (ap total among);
      lowest = s.lowest ∙ ap lowest_of after ∙ omega (
        arith,
        ints,
        clamps,
        low_all,
        lowest-append ns ms,
        lowest-append (ns ++ ls) ms,
        lowest-append ns ls,
      )
          ∙ sym (ap lowest_of among);
      highest = s.highest ∙ ap highest_of after ∙ omega (
        arith,
        ints,
        clamps,
        high_all,
        highest-append ns ms,
        highest-append (ns ++ ls) ms,
        highest-append ns ls,
      )
          ∙ sym (ap highest_of among);
      first = s.first ∙ first_fault-append (front ++ back) middle
          ∙ ap (λ x. option_or x (first_fault middle)) none
          ∙ fault_among front middle back none;
      ranged = ap (list_all in_range) among
          ∙ list_all-append in_range (ns ++ ls) ms
          ∙ ap (λ b. b && list_all in_range ms) (list_all-append in_range ns ls)
          ∙ turned_and (list_all in_range ns) (list_all in_range ls) (list_all in_range ms)
          ∙ ap (λ b. b && list_all in_range ls) (sym (list_all-append in_range ns ms))
          ∙ sym (list_all-append in_range (ns ++ ms) ls)
          ∙ sym (ap (list_all in_range) after)
          ∙ s.ranged;
    }
  where
    or_none : (x : Option Fault) → option_or x None ≡ x
    or_none None = refl
    or_none (Some fault) = refl

    fault_among : (front middle back : List Number) → first_fault (front ++ back) ≡ None
        → option_or None (first_fault middle) ≡ first_fault (front ++ middle ++ back)
    fault_among [] middle back none =
        sym (first_fault-append middle back ∙ ap (option_or (first_fault middle)) none ∙ or_none (first_fault middle))
    fault_among (Ok n ∷ front) middle back none = fault_among front middle back none
    fault_among (Err fault ∷ front) middle back none = absurd (let e : Some fault ≡ None = none in cc)

    turned_and : (x y z : Bool) → ((x && y) && z) ≡ ((x && z) && y)
    turned_and true true true = refl
    turned_and true true false = refl
    turned_and true false true = refl
    turned_and true false false = refl
    turned_and false y z = refl

-- where all items have no fault, those around some of them have none
pub none_around : (front middle back : List Number) → is_some (first_fault (front ++ middle ++ back)) ≡ false
    → first_fault (front ++ back) ≡ None
none_around front middle back h =
    first_fault-append front back
    ∙ without (first_fault front) (first_fault middle) (first_fault back)
    (sym (ap is_some (first_fault-append (front ++ middle) back
    ∙ ap (λ x. option_or x (first_fault back)) (first_fault-append front middle))) ∙ h)
  where
    without : (x y z : Option Fault) → is_some (option_or (option_or x y) z) ≡ false → option_or x z ≡ None
    without None None None e = refl
    without None None (Some fault) e = absurd (let no : true ≡ false = e in cc)
    without None (Some fault) z e = absurd (let no : true ≡ false = e in cc)
    without (Some fault) y z e = absurd (let no : true ≡ false = e in cc)
