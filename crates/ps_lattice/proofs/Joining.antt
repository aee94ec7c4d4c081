-- What a merged list is seen as, and that it is in range.
use Rattle.std.proofs.Common.{◌≡◌, Bool, true, ◌&&◌, List, [], ◌∷◌, refl, sym, ap, ◌∙◌}
use Rattle.std.specs.declared.cmp.Ordering.TheVariants.{Equal}
use Rattle.std.proofs.lemmas.List.Sums.{AllPass-from_list_all, list_all-from_AllPass}
use Rattle.std.specs.List.{list_all}
use Rattle.std.specs.declared.cmp.Ordering.{Ordering}
use Rattle.std.specs.Cmp.{IsTotalOrder}
use Rattle.std.specs.FinMap as map
use Rattle.std.specs.FinMap.{IsAntisymmetric}
use Rattle.ps_lattice.specs.Maps.{joined_maps}
use Rattle.ps_lattice.specs.MapLaws.{IsJoin, maps_commutative}
use Rattle.ps_lattice.proofs.Rising.{and_left, and_right, and_both}
use Rattle.ps_lattice.proofs.Views.{entries_of, from_entries_of, entries_rise}
use Rattle.ps_lattice.proofs.Merging.{merged, merged_equal, All-merged, entries-joined}

module _ {K X : Type 0} (R : K → K → Ordering) (f : X → X → X) (xs ys zs : List (K × X))
    (is : zs ≡ map.entries (joined_maps f (map.from_sorted {R = R} xs) (map.from_sorted {R = R} ys))) where
  -- it is seen as the join
  pub seen_joined : (s t : map.FinMap R X) → map.from_sorted xs ≡ s → map.from_sorted ys ≡ t
      → map.from_sorted zs ≡ joined_maps f s t
  seen_joined s t p q =
      ap (λ es. map.from_sorted {R = R} es) is
      ∙ from_entries_of R (joined_maps f (map.from_sorted {R = R} xs) (map.from_sorted {R = R} ys))
      ∙ (λ i. joined_maps f (p i) (q i))

  -- it ascends, and is in range where both lists are
  pub in_range_joined : IsTotalOrder R → IsAntisymmetric R → (fits : K × X → Bool)
      → ((a b : K × X) → fits a ≡ true → fits b ≡ true → fits (a.0, f a.1 b.1) ≡ true)
      → (map.is_sorted R xs && list_all fits xs) ≡ true → (map.is_sorted R ys && list_all fits ys) ≡ true
      → (map.is_sorted R zs && list_all fits zs) ≡ true
  in_range_joined o same fits keeps hx hy =
      let sx = and_left (map.is_sorted R xs) (list_all fits xs) hx in
      let sy = and_left (map.is_sorted R ys) (list_all fits ys) hy in
      let ax = and_right (map.is_sorted R xs) (list_all fits xs) hx in
      let ay = and_right (map.is_sorted R ys) (list_all fits ys) hy in
      and_both (map.is_sorted R zs) (list_all fits zs)
      (ap (λ es. map.is_sorted R es) is ∙ entries_rise R (joined_maps f (map.from_sorted {R = R} xs)
      (map.from_sorted {R = R} ys)))
      (ap (list_all fits) (is ∙ sym (entries-joined R f o same xs ys sx sy))
      ∙ list_all-from_AllPass fits (merged R f xs ys) (All-merged R f (λ e. fits e ≡ true) keeps xs ys
      (AllPass-from_list_all fits xs ax) (AllPass-from_list_all fits ys ay)))

module _ {K X : Type 0} (R : K → K → Ordering) (f : X → X → X) (xs ys : List (K × X)) where
  -- where the second list changes nothing, the first one has the entries of the join
  pub entries_same : map.is_sorted R xs ≡ true
      → joined_maps f (map.from_sorted {R = R} xs) (map.from_sorted {R = R} ys) ≡ map.from_sorted xs
      → xs ≡ map.entries (joined_maps f (map.from_sorted {R = R} xs) (map.from_sorted {R = R} ys))
  entries_same sorted same = entries_of R xs sorted ∙ sym (ap map.entries same)

  -- and where the first one changes nothing, the second one has
  pub entries_swapped : IsTotalOrder R → IsAntisymmetric R → IsJoin f → map.is_sorted R ys ≡ true
      → joined_maps f (map.from_sorted {R = R} ys) (map.from_sorted {R = R} xs) ≡ map.from_sorted ys
      → ys ≡ map.entries (joined_maps f (map.from_sorted {R = R} xs) (map.from_sorted {R = R} ys))
  entries_swapped o anti law sorted same =
      entries_of R ys sorted ∙ ap map.entries (sym same
      ∙ maps_commutative R f o anti law (map.from_sorted {R = R} ys) (map.from_sorted {R = R} xs))

module _ {K X : Type 0} (R : K → K → Ordering) (f : X → X → X) where
  -- two lists of one entry each, of one key, joined
  pub entries_at_key : IsTotalOrder R → IsAntisymmetric R → (xs ys : List (K × X)) → (x y : K × X)
      → xs ≡ x ∷ [] → ys ≡ y ∷ [] → R x.0 y.0 ≡ Equal
      → (x.0, f x.1 y.1) ∷ []
      ≡ map.entries (joined_maps f (map.from_sorted {R = R} xs) (map.from_sorted {R = R} ys))
  entries_at_key o same xs ys x y p q tied =
      sym (merged_equal R f x y [] [] tied) ∙ entries-joined R f o same (x ∷ []) (y ∷ []) refl refl
      ∙ (λ i. map.entries (joined_maps f (map.from_sorted {R = R} (sym p i)) (map.from_sorted {R = R} (sym q i))))
