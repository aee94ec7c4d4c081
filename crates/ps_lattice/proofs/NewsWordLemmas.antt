-- What is new by each entry and each pair.
use Rattle.std.proofs.Common.{◌≡◌, ℕ, Bool, true, false, not, ◌&&◌, ◌||◌, nat_le, Option, Some, None, unwrap_or}
use Rattle.std.proofs.Common.{is_some, refl, ap, ◌∙◌, arith}
use Rattle.std.specs.Prelude.{if◌then◌else◌}
use Rattle.std.specs.Option.{option_map_or}
use Rattle.std.specs.declared.cmp.Ordering.{Ordering}
use Rattle.std.specs.Ordering.{nat_cmp}
use Rattle.std.specs.Cmp.{IsTotalOrder, nat_cmp_total}
use Rattle.std.specs.FinMap as map
use Rattle.std.specs.FinMap.{IsAntisymmetric, nat_cmp-IsAntisymmetric}
use Rattle.std.proofs.lemmas.Bool.Decides.{nat_tests}
use Rattle.ps_lattice.specs.declared.tally.Count.{Count}
use Rattle.ps_lattice.specs.Maps.{both_of, joined_maps}
use Rattle.ps_lattice.specs.MapLaws.{IsJoin, both_of_is_join, maps_is_join}
use Rattle.ps_lattice.specs.Tally.{greater_counts}
use Rattle.ps_lattice.specs.TallyLaws.{counts_is_join}
use Rattle.ps_lattice.specs.Choice.{pair_cmp, pair_of}
use Rattle.ps_lattice.specs.ChoiceLaws.{pairs_total, pairs_apart, removals_is_join}
use Rattle.ps_lattice.specs.News.{IsNewsOf}
use Rattle.ps_lattice.specs.NewsLaws.{both_of-None, news_once}
use Rattle.ps_lattice.specs.NewsWords.{TalliesNewByEntry, ChoicesNewByPair}
use Rattle.ps_lattice.specs.Inside.News.{news_entries, newer_count, newer_mark, newer_total}
use Rattle.ps_lattice.specs.Inside.NewsLaws.{counts_news, marks_news}
use Rattle.ps_lattice.proofs.NewsLemmas.{news_at, seen_news}
use Rattle.ps_lattice.proofs.Views.{entries_rise, from_entries_of}

-- what is new of a value that may be missing
abbrev newer_at : {X : Type 0} → (Option X → X → Option X) → Option X → Option X → Option X
newer_at g s None = None
newer_at g s (Some y) = g s y

module _ {K X : Type 0} (R : K → K → Ordering) (g : Option X → X → Option X) (o : IsTotalOrder R)
    (same : IsAntisymmetric R) (f : X → X → X) (law : IsJoin f)
    (is_news : (there : Option X) (value : X) → IsNewsOf (both_of f) there (Some value) (g there value)) where
  newer_at_is : (s d : Option X) → IsNewsOf (both_of f) s d (newer_at g s d)
  newer_at_is s None = record { same = refl; least = λ m h. both_of-None f m }
  newer_at_is s (Some y) = is_news s y

  -- what is new of a map is so key by key
  key_news : (s d n : map.FinMap R X) → IsNewsOf (joined_maps f) s d n
      → (q : K) → map.get n q ≡ newer_at g (map.get s q) (map.get d q)
  key_news s d n w q =
      let mine = map.entries s in
      let theirs = map.entries d in
      let made : map.FinMap R X = map.from_sorted {R = R} (news_entries R g mine theirs) in
      let is = seen_news R g o f is_news same mine theirs (news_entries R g mine theirs) s d (entries_rise R s)
      (entries_rise R d) refl (from_entries_of R s) (from_entries_of R d) in
      ap (λ (m : map.FinMap R X). map.get m q) (news_once (maps_is_join R f o same law) s d n made w is)
      ∙ news_once (both_of_is_join law) _ _ _ _
      (news_at R g o f is_news mine theirs (entries_rise R s) (entries_rise R d) q)
      (newer_at_is (map.get (map.from_sorted {R = R} mine) q) (map.get (map.from_sorted {R = R} theirs) q))
      ∙ (λ i. newer_at g (map.get (from_entries_of R s i) q) (map.get (from_entries_of R d i) q))

none_above : (y : ℕ) → y ≡ newer_total 0 y
none_above y = grind (arith, nat_tests)

not_above : (x y : ℕ) → nat_le y x ≡ true → 0 ≡ newer_total x y
not_above x y h = grind (arith, nat_tests)

left : (a b : Bool) → (a && b) ≡ true → a ≡ true
left true b h = refl
left false b h = h

right : (a b : Bool) → (a && b) ≡ true → b ≡ true
right true b h = h
right false b h = cc

nothing_above : (x : ℕ) → 0 ≡ newer_total x 0
nothing_above x = grind (arith, nat_tests)

abbrev added_in : Option Count → ℕ
added_in o = option_map_or (λ c. c.added) o 0

abbrev subtracted_in : Option Count → ℕ
subtracted_in o = option_map_or (λ c. c.subtracted) o 0

by_count : (x y : Count) (b : Bool) → (nat_le y.added x.added && nat_le y.subtracted x.subtracted) ≡ b
    → let v : Option Count = if b then None else Some (record {
      added = newer_total x.added y.added;
      subtracted = newer_total x.subtracted y.subtracted;
    }) in (added_in v ≡ newer_total x.added y.added) × (subtracted_in v ≡ newer_total x.subtracted y.subtracted)
by_count x y true h = (
  not_above x.added y.added (left _ _ h),
  not_above x.subtracted y.subtracted (right (nat_le y.added x.added) _ h),
)
by_count x y false h = (refl, refl)

counts_at : (s d : Option Count) → (added_in (newer_at newer_count s d) ≡ newer_total (added_in s) (added_in d))
    × (subtracted_in (newer_at newer_count s d) ≡ newer_total (subtracted_in s) (subtracted_in d))
counts_at s None = (nothing_above (added_in s), nothing_above (subtracted_in s))
counts_at None (Some y) = (none_above y.added, none_above y.subtracted)
counts_at (Some x) (Some y) = by_count x y _ refl

pub new_by_entry : TalliesNewByEntry
new_by_entry s d n w r =
    let at =
    key_news nat_cmp newer_count nat_cmp_total nat_cmp-IsAntisymmetric greater_counts counts_is_join counts_news
    s d n w r in
    let is = counts_at (map.get s r) (map.get d r) in
    record { added = ap added_in at ∙ is.0; subtracted = ap subtracted_in at ∙ is.1 }

abbrev gone_in : Option Bool → Bool
gone_in o = unwrap_or o false

marks_at : (s d : Option Bool)
    → (is_some (newer_at newer_mark s d) ≡ ((is_some d && not (is_some s)) || (gone_in d && not (gone_in s))))
    × (gone_in (newer_at newer_mark s d) ≡ (gone_in d && not (gone_in s)))
marks_at None None = (refl, refl)
marks_at (Some x) None = (refl, refl)
marks_at None (Some true) = (refl, refl)
marks_at None (Some false) = (refl, refl)
marks_at (Some true) (Some true) = (refl, refl)
marks_at (Some true) (Some false) = (refl, refl)
marks_at (Some false) (Some true) = (refl, refl)
marks_at (Some false) (Some false) = (refl, refl)

pub new_by_pair : ChoicesNewByPair
new_by_pair s d n w option replica sequence =
    let p = pair_of option replica sequence in
    let at =
    key_news pair_cmp newer_mark pairs_total pairs_apart ◌||◌ removals_is_join marks_news s d n w p in
    let is = marks_at (map.get s p) (map.get d p) in
    record { added = ap is_some at ∙ is.0; removed = ap gone_in at ∙ is.1 }
