-- Joins of lists of counts.
use Rattle.std.proofs.Common.{◌≡◌, ℕ, ◌≤◌, true, List, [], ◌∷◌, sym, ap, ◌∙◌, arith, max}
use Rattle.std.specs.List.{list_all}
use Rattle.std.specs.Ordering.{nat_cmp}
use Rattle.std.specs.Cmp.{nat_cmp_total, tied_itself}
use Rattle.std.specs.FinMap as map
use Rattle.std.specs.FinMap.{nat_cmp-IsAntisymmetric, same_entries_map}
use Rattle.ps_lattice.specs.declared.tally.Count.{Count}
use Rattle.ps_lattice.specs.Tally.{greater_counts, joined_tallies, is_count, is_tally}
use Rattle.ps_lattice.specs.TallyLaws.{counts_is_join}
use Rattle.ps_lattice.specs.Inside.Shared.{joined_entries}
use Rattle.ps_lattice.proofs.Rising.{and_left}
use Rattle.ps_lattice.proofs.Covering.{none_is_below}
use Rattle.ps_lattice.proofs.Joining.{entries_same, entries_swapped, entries_at_key}
use Rattle.ps_lattice.proofs.Views.{entries_of}

-- the map of a list in range has its entries in range
pub seen_in_range : (es : List (ℕ × Count)) → is_tally es ≡ true
    → is_tally (map.entries (map.from_sorted {R = nat_cmp} es)) ≡ true
seen_in_range es h =
    sym (ap is_tally (entries_of nat_cmp es (and_left (map.is_sorted nat_cmp es) (list_all is_count es) h))) ∙ h

module _ (mine theirs : List (ℕ × Count)) where
  -- an empty list changes nothing
  pub none_below : map.is_sorted nat_cmp theirs ≡ true → mine ≡ []
      → joined_tallies (map.from_sorted theirs) (map.from_sorted mine) ≡ map.from_sorted theirs
  none_below = none_is_below nat_cmp greater_counts nat_cmp_total nat_cmp-IsAntisymmetric theirs mine

  -- where the second list changes nothing, the first one is the join
  pub mine_is_join : map.is_sorted nat_cmp mine ≡ true
      → joined_tallies (map.from_sorted mine) (map.from_sorted theirs) ≡ map.from_sorted mine
      → mine ≡ joined_entries nat_cmp greater_counts mine theirs
  mine_is_join = entries_same nat_cmp greater_counts mine theirs

  -- where the first one changes nothing, the second one is
  pub theirs_is_join : map.is_sorted nat_cmp theirs ≡ true
      → joined_tallies (map.from_sorted theirs) (map.from_sorted mine) ≡ map.from_sorted theirs
      → theirs ≡ joined_entries nat_cmp greater_counts mine theirs
  theirs_is_join =
      entries_swapped nat_cmp greater_counts mine theirs nat_cmp_total nat_cmp-IsAntisymmetric counts_is_join

  -- the counts of one replica, joined
  pub one_is_join : (x y : ℕ × Count) → mine ≡ x ∷ [] → theirs ≡ y ∷ [] → x.0 ≡ y.0
      → (x.0, greater_counts x.1 y.1) ∷ [] ≡ joined_entries nat_cmp greater_counts mine theirs
  one_is_join x y p q same =
      entries_at_key nat_cmp greater_counts nat_cmp_total nat_cmp-IsAntisymmetric mine theirs x y p q
      (sym (ap (nat_cmp x.0) same) ∙ tied_itself nat_cmp_total x.0)

-- one replica's counts change nothing in others of it that are as great
below_greater : (x y : Count) → (x.added ≤ y.added) × (x.subtracted ≤ y.subtracted) → greater_counts y x ≡ y
below_greater x y le =
    let made : ℕ → ℕ → Count = λ a s. record { added = a; subtracted = s } in
    let more : max y.added x.added ≡ y.added = omega (arith, le.0) in
    let less : max y.subtracted x.subtracted ≡ y.subtracted = omega (arith, le.1) in
    ap (λ a. made a (max y.subtracted x.subtracted)) more ∙ ap (made y.added) less

greater_below : (x y : Count) → greater_counts y x ≡ y → (x.added ≤ y.added) × (x.subtracted ≤ y.subtracted)
greater_below x y is =
    let more : max y.added x.added ≡ y.added = ap (λ (c : Count). c.added) is in
    let less : max y.subtracted x.subtracted ≡ y.subtracted = ap (λ (c : Count). c.subtracted) is in
    (omega (arith, more), omega (arith, less))

-- the counts of the first entry, or some others
first_counts : Count → List (ℕ × Count) → Count
first_counts c [] = c
first_counts c (e ∷ es) = e.1

module _ (mine theirs : List (ℕ × Count)) (x y : ℕ × Count) (p : mine ≡ x ∷ []) (q : theirs ≡ y ∷ [])
    (at : x.0 ≡ y.0) (sorted : map.is_sorted nat_cmp theirs ≡ true) where
  entries_joined : (y.0, greater_counts y.1 x.1) ∷ [] ≡ joined_entries nat_cmp greater_counts theirs mine
  entries_joined = one_is_join theirs mine y x q p (sym at)

  pub one_below : (x.1.added ≤ y.1.added) × (x.1.subtracted ≤ y.1.subtracted)
      → joined_tallies (map.from_sorted theirs) (map.from_sorted mine) ≡ map.from_sorted theirs
  one_below le =
      same_entries_map (joined_tallies (map.from_sorted theirs) (map.from_sorted mine)) (map.from_sorted theirs)
      (sym entries_joined ∙ ap (λ (c : Count). (y.0, c) ∷ []) (below_greater x.1 y.1 le) ∙ sym q
      ∙ entries_of nat_cmp theirs sorted)

  pub below_one : joined_tallies (map.from_sorted theirs) (map.from_sorted mine) ≡ map.from_sorted theirs
      → (x.1.added ≤ y.1.added) × (x.1.subtracted ≤ y.1.subtracted)
  unfolding first_counts
  below_one below =
      greater_below x.1 y.1
      (ap (first_counts y.1) (entries_joined ∙ ap map.entries below ∙ sym (entries_of nat_cmp theirs sorted) ∙ q))
