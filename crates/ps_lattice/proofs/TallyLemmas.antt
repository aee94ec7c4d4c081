-- What edits of a counter do to it, and the bounds of its sums.
use Rattle.std.proofs.Common.{◌≡◌, ℕ, ◌+◌, ◌*◌, ◌<◌, ◌≤◌, max, suc, take, drop, drop-cons, get_or, length, true}
use Rattle.std.proofs.Common.{false, cond, ◌&&◌, ◌||◌, nat_le, List, [], ◌∷◌, Option, Some, None, unwrap_or, sum_by}
use Rattle.std.proofs.Common.{refl, sym, ap, ◌∙◌, arith}
use Rattle.std.specs.List.{list_all}
use Rattle.std.specs.Option.{option_map_or}
use Rattle.std.specs.Ordering.{nat_cmp, eq_by_cmp, is_lt}
use Rattle.std.specs.Cmp.{nat_cmp_total}
use Rattle.std.specs.FinMap as map
use Rattle.std.specs.FinMap.{nat_cmp-IsAntisymmetric}
use Rattle.std.specs.FinMap.Entries.{below_all}
use Rattle.std.proofs.lemmas.Bool.Decides.{nat_tests}
use Rattle.std.proofs.lemmas.List.Sums.{sum_by-cons, sum_by-take-drop}
use borrow.Author.Tests.{leb-true, le-leb}
use Rattle.std.proofs.Common.{lit≤}
use Rattle.ps_lattice.specs.declared.tally.Count.{Count}
use Rattle.ps_grid.specs.declared.parties.TheConstants.{REPLICAS}
use Rattle.ps_lattice.specs.declared.limits.TheConstants.{COUNT_LIMIT}
use Rattle.ps_lattice.specs.Maps.{joined_with_held}
use Rattle.ps_lattice.specs.Tally.{Counts, added, subtracted, greater_counts, joined_tallies, with_counts, counts_of}
use Rattle.ps_lattice.specs.Tally.{is_count, is_tally}
use Rattle.ps_lattice.proofs.Joining.{in_range_joined}
use Rattle.ps_lattice.proofs.Rising.{and_left, and_right, and_both, sorted_head, sorted_rest}
use Rattle.ps_lattice.proofs.Views.{joined-one, get_set}

-- one of two counts that isn't changed
joined_added : (o : Option Count) (k : ℕ)
    → joined_with_held greater_counts o (record { added = option_map_or (λ c. c.added) o 0 + k; subtracted = 0 })
    ≡ record { added = option_map_or (λ c. c.added) o 0 + k; subtracted = option_map_or (λ c. c.subtracted) o 0 }
joined_added None k = refl
joined_added (Some c) k =
    let first : max c.added (c.added + k) ≡ c.added + k = omega arith in
    let second : max c.subtracted 0 ≡ c.subtracted = omega arith in
    λ i. record { added = first i; subtracted = second i }

joined_subtracted : (o : Option Count) (k : ℕ)
    → joined_with_held greater_counts o (record { added = 0; subtracted = option_map_or (λ c. c.subtracted) o 0 + k })
    ≡ record { added = option_map_or (λ c. c.added) o 0; subtracted = option_map_or (λ c. c.subtracted) o 0 + k }
joined_subtracted None k = refl
joined_subtracted (Some c) k =
    let first : max c.added 0 ≡ c.added = omega arith in
    let second : max c.subtracted (c.subtracted + k) ≡ c.subtracted + k = omega arith in
    λ i. record { added = first i; subtracted = second i }

-- so a delta of one replica's counts sets both
joined_by_one : (t d : Counts) (r : ℕ) (one both : Count) → d ≡ map.insert map.empty r one
    → joined_with_held greater_counts (map.get t r) one ≡ both → joined_tallies t d ≡ map.insert t r both
joined_by_one t d r one both is raises =
    ap (joined_tallies t) is
    ∙ joined-one nat_cmp nat_cmp_total nat_cmp-IsAntisymmetric greater_counts t r one
    ∙ ap (map.insert t r) raises

-- what is added raises the replica's P alone
pub add_raises : (t : Counts) (r k : ℕ) (d : Counts) → d ≡ counts_of r (added t r + k) 0
    → joined_tallies t d ≡ with_counts t r (added t r + k) (subtracted t r)
add_raises t r k d is = joined_by_one t d r _ _ is (joined_added (map.get t r) k)

-- what is subtracted raises its N alone
pub sub_raises : (t : Counts) (r k : ℕ) (d : Counts) → d ≡ counts_of r 0 (subtracted t r + k)
    → joined_tallies t d ≡ with_counts t r (added t r) (subtracted t r + k)
sub_raises t r k d is = joined_by_one t d r _ _ is (joined_subtracted (map.get t r) k)

-- one of a replica's two counts
module _ (part : Count → ℕ) where
  abbrev part_of : Counts → ℕ → ℕ
  part_of t r = option_map_or part (map.get t r) 0

  -- a counter in which it is greater is another one
  changes : (t d : Counts) (r k : ℕ) (both : Count) → joined_tallies t d ≡ map.insert t r both
      → part both ≡ part_of t r + k → 1 ≤ k → ¬ (joined_tallies t d ≡ t)
  changes t d r k both is more some same =
      let set = get_set nat_cmp nat_cmp_total nat_cmp-IsAntisymmetric t r both in
      let e : part both ≡ part_of t r =
      sym (ap (λ o. option_map_or part o 0) set) ∙ ap (λ u. part_of u r) (sym is ∙ same) in
      omega arith

  -- and 0 where the counts are missing
  pub part-unwrap_or : part (record { added = 0; subtracted = 0 }) ≡ 0 → (o : Option Count)
      → part (unwrap_or o (record { added = 0; subtracted = 0 })) ≡ option_map_or part o 0
  part-unwrap_or zero None = zero
  part-unwrap_or zero (Some c) = refl

-- so a delta of an amount above 0 changes the counter
pub add_is_fresh : (t : Counts) (r k : ℕ) (d : Counts) → d ≡ counts_of r (added t r + k) 0 → 1 ≤ k
    → ¬ (joined_tallies t d ≡ t)
add_is_fresh t r k d is = changes (λ c. c.added) t d r k _ (add_raises t r k d is) refl

pub sub_is_fresh : (t : Counts) (r k : ℕ) (d : Counts) → d ≡ counts_of r 0 (subtracted t r + k) → 1 ≤ k
    → ¬ (joined_tallies t d ≡ t)
sub_is_fresh t r k d is = changes (λ c. c.subtracted) t d r k _ (sub_raises t r k d is) refl

-- the ranges of an entry
pub record CountFits (e : ℕ × Count) : Type 0 where
  pub low : 1 ≤ e.0
  pub high : e.0 ≤ REPLICAS
  pub added : e.1.added ≤ COUNT_LIMIT
  pub subtracted : e.1.subtracted ≤ COUNT_LIMIT
  pub some : (nat_le 1 e.1.added || nat_le 1 e.1.subtracted) ≡ true

pub count_fits : (e : ℕ × Count) → is_count e ≡ true → CountFits e
count_fits e h =
    let a = nat_le 1 e.0 in
    let b = nat_le e.0 REPLICAS in
    let p = nat_le e.1.added COUNT_LIMIT in
    let n = nat_le e.1.subtracted COUNT_LIMIT in
    let some = nat_le 1 e.1.added || nat_le 1 e.1.subtracted in
    let h4 = and_left (((a && b) && p) && n) some h in
    let h3 = and_left ((a && b) && p) n h4 in
    let h2 = and_left (a && b) p h3 in
    record {
      low = leb-true 1 e.0 (and_left a b h2);
      high = leb-true e.0 REPLICAS (and_right a b h2);
      added = leb-true e.1.added COUNT_LIMIT (and_right (a && b) p h3);
      subtracted = leb-true e.1.subtracted COUNT_LIMIT (and_right ((a && b) && p) n h4);
      some = and_right (((a && b) && p) && n) some h;
    }

-- counts that are found fit
pub found_fits : (q : ℕ) (es : List (ℕ × Count)) → list_all is_count es ≡ true
    → let c = unwrap_or (map.find nat_cmp q es) (record { added = 0; subtracted = 0 }) in
    (c.added ≤ COUNT_LIMIT) × (c.subtracted ≤ COUNT_LIMIT)
found_fits q [] h = (lit≤ tt, lit≤ tt)
found_fits q (e ∷ es) h =
    let fits = count_fits e (and_left (is_count e) (list_all is_count es) h) in
    elim (eq_by_cmp nat_cmp q e.0) as (λ b. let c = unwrap_or (cond b (Some e.1) (map.find nat_cmp q es))
    (record { added = 0; subtracted = 0 }) in (c.added ≤ COUNT_LIMIT) × (c.subtracted ≤ COUNT_LIMIT)) [
      | true ↦ (fits.added, fits.subtracted)
      | false ↦ found_fits q es (and_right (is_count e) (list_all is_count es) h)
    ]

less_is : (x y : ℕ) → is_lt (nat_cmp x y) ≡ true → x < y
less_is x y h = grind (arith, nat_tests)

-- replicas from k + 1 on leave room for all entries but k
room : (k : ℕ) (es : List (ℕ × Count)) → k ≤ REPLICAS → below_all nat_cmp k es ≡ true → is_tally es ≡ true
    → length es + k ≤ REPLICAS
room k [] low below h = omega arith
room k (e ∷ es) low below h =
    let sorted = and_left (map.is_sorted nat_cmp (e ∷ es)) (list_all is_count (e ∷ es)) h in
    let all = and_right (map.is_sorted nat_cmp (e ∷ es)) (list_all is_count (e ∷ es)) h in
    let fits = count_fits e (and_left (is_count e) (list_all is_count es) all) in
    let above = less_is k e.0 (and_left (is_lt (nat_cmp k e.0)) (below_all nat_cmp k es) below) in
    let rest = and_both _ _ (sorted_rest nat_cmp nat_cmp_total e es sorted)
    (and_right (is_count e) (list_all is_count es) all) in
    let ih = room e.0 es fits.high (sorted_head nat_cmp nat_cmp_total e es sorted) rest in
    omega arith

-- a counter has an entry for each replica at most
pub length_fits : (es : List (ℕ × Count)) → is_tally es ≡ true → length es ≤ REPLICAS
length_fits [] h = omega arith
length_fits (e ∷ es) h =
    let sorted = and_left (map.is_sorted nat_cmp (e ∷ es)) (list_all is_count (e ∷ es)) h in
    let all = and_right (map.is_sorted nat_cmp (e ∷ es)) (list_all is_count (e ∷ es)) h in
    let fits = count_fits e (and_left (is_count e) (list_all is_count es) all) in
    let rest = and_both _ _ (sorted_rest nat_cmp nat_cmp_total e es sorted)
    (and_right (is_count e) (list_all is_count es) all) in
    let ih = room e.0 es fits.high (sorted_head nat_cmp nat_cmp_total e es sorted) rest in
    let low = fits.low in
    omega arith

sum_fits : (part : Count → ℕ) → ((e : ℕ × Count) → is_count e ≡ true → part e.1 ≤ COUNT_LIMIT)
    → (es : List (ℕ × Count)) → list_all is_count es ≡ true → sum_by (λ e. part e.1) es ≤ length es * COUNT_LIMIT
sum_fits part fits [] h = omega arith
sum_fits part fits (e ∷ es) h =
    let one = fits e (and_left (is_count e) (list_all is_count es) h) in
    let rest = sum_fits part fits es (and_right (is_count e) (list_all is_count es) h) in
    let split = sum_by-cons (λ (d : ℕ × Count). part d.1) e es in
    omega arith

-- a part of a sum, and the next item, are at most the sum
pub partial_fits : {A : Type 0} (f : A → ℕ) (es : List A) (i : ℕ) (d : A) → i < length es
    → sum_by f (take i es) + f (get_or es i d) ≤ sum_by f es
partial_fits f es i d within =
    let parts = sum_by-take-drop f es i in
    let rest = ap (sum_by f) (drop-cons es i d within) ∙ sum_by-cons f (get_or es i d) (drop (suc i) es) in
    omega arith

total_fits : (part : Count → ℕ) → ((e : ℕ × Count) → is_count e ≡ true → part e.1 ≤ COUNT_LIMIT)
    → (es : List (ℕ × Count)) → is_tally es ≡ true → sum_by (λ e. part e.1) es ≤ REPLICAS * COUNT_LIMIT
total_fits part fits es h =
    let all = sum_fits part fits es (and_right (map.is_sorted nat_cmp es) (list_all is_count es) h) in
    let few = length_fits es h in
    omega arith

-- the sums of P and of N are at most a full count of each replica
pub added_total_fits : (es : List (ℕ × Count)) → is_tally es ≡ true
    → sum_by (λ e. e.1.added) es ≤ REPLICAS * COUNT_LIMIT
added_total_fits = total_fits (λ c. c.added) (λ e h. (count_fits e h).added)

pub subtracted_total_fits : (es : List (ℕ × Count)) → is_tally es ≡ true
    → sum_by (λ e. e.1.subtracted) es ≤ REPLICAS * COUNT_LIMIT
subtracted_total_fits = total_fits (λ c. c.subtracted) (λ e h. (count_fits e h).subtracted)

either_max : (a b c d : ℕ) → (nat_le 1 a || nat_le 1 b) ≡ true → (nat_le 1 (max a c) || nat_le 1 (max b d)) ≡ true
either_max a b c d h = grind (arith, nat_tests)

max_fits : (a b : ℕ) → a ≤ COUNT_LIMIT → b ≤ COUNT_LIMIT → nat_le (max a b) COUNT_LIMIT ≡ true
max_fits a b p q = le-leb (max a b) COUNT_LIMIT (omega arith)

-- entries of one replica in range are so when they are joined
pub is_count-joined : (a b : ℕ × Count) → is_count a ≡ true → is_count b ≡ true
    → is_count (a.0, greater_counts a.1 b.1) ≡ true
is_count-joined a b ha hb =
    let fa = count_fits a ha in
    let fb = count_fits b hb in
    and_both _ _ (and_both _ _ (and_both _ _ (and_both _ _ (le-leb 1 a.0 fa.low) (le-leb a.0 REPLICAS fa.high))
    (max_fits a.1.added b.1.added fa.added fb.added))
    (max_fits a.1.subtracted b.1.subtracted fa.subtracted fb.subtracted))
    (either_max a.1.added a.1.subtracted b.1.added b.1.subtracted fa.some)

-- a merged list is one of counts
pub joined_in_range : (xs ys zs : List (ℕ × Count))
    → zs ≡ map.entries (joined_tallies (map.from_sorted xs) (map.from_sorted ys))
    → is_tally xs ≡ true → is_tally ys ≡ true → is_tally zs ≡ true
joined_in_range xs ys zs is =
    in_range_joined nat_cmp greater_counts xs ys zs is nat_cmp_total nat_cmp-IsAntisymmetric is_count is_count-joined
