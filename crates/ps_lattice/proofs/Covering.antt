-- When joining a list of entries into a map changes nothing.
use Rattle.std.proofs.Common.{◌≡◌, ℕ, suc, ◌<◌, length, get_or, Bool, true, false, cond, List, [], ◌∷◌, Option, Some}
use Rattle.std.proofs.Common.{None, refl, sym, ap, ◌∙◌, arith}
use Rattle.std.specs.List.{AllWithin}
use Rattle.std.specs.declared.cmp.Ordering.{Ordering}
use Rattle.std.specs.Ordering.{eq_by_cmp}
use Rattle.std.specs.Cmp.{IsTotalOrder, Equal-is, tied_itself}
use Rattle.std.specs.FinMap as map
use Rattle.std.specs.FinMap.{IsAntisymmetric, same_map, get-from_sorted}
use Rattle.std.specs.FinMap.Entries.{find_tied}
use Rattle.ps_lattice.specs.Maps.{both_of, joined_maps}
use Rattle.ps_lattice.specs.MapLaws.{get-joined_maps}
use Rattle.ps_lattice.proofs.Rising.{to_T, find_at}

-- joining the entry in changes nothing
abbrev pub IsCovered : {K X : Type 0} (R : K → K → Ordering) (f : X → X → X) → List (K × X) → K × X → Type 0
IsCovered R f theirs e = both_of f (map.find R e.0 theirs) (Some e.1) ≡ map.find R e.0 theirs

module _ {K X : Type 0} (R : K → K → Ordering) (f : X → X → X) (o : IsTotalOrder R) (same : IsAntisymmetric R) where
  unchanged : (a : Option X) → both_of f a None ≡ a
  unchanged None = refl
  unchanged (Some x) = refl

  at_key : (theirs : List (K × X)) (e : K × X) (rest : Option X) (q : K) → IsCovered R f theirs e
      → both_of f (map.find R q theirs) rest ≡ map.find R q theirs
      → (b : Bool) → eq_by_cmp R q e.0 ≡ b → both_of f (map.find R q theirs) (cond b (Some e.1) rest)
      ≡ map.find R q theirs
  at_key theirs e rest q covered before true t =
      let tied = find_tied R o q e.0 ((Equal-is (R q e.0)).0 t) theirs in
      ap (λ a. both_of f a (Some e.1)) (sym tied) ∙ covered ∙ tied
  at_key theirs e rest q covered before false t = before

  covers_key : (theirs mine : List (K × X)) → AllWithin (IsCovered R f theirs) mine 0 (length mine)
      → (q : K) → both_of f (map.find R q theirs) (map.find R q mine) ≡ map.find R q theirs
  covers_key theirs [] all q = unchanged (map.find R q theirs)
  covers_key theirs (e ∷ es) all q =
      at_key theirs e (map.find R q es) q (all 0 e (omega arith) (omega arith))
      (covers_key theirs es (λ k d low high. all (suc k) d (omega arith) (omega arith)) q) (eq_by_cmp R q e.0) refl

  get-joined : (theirs mine : List (K × X)) → map.is_sorted R theirs ≡ true → map.is_sorted R mine ≡ true → (q : K)
      → map.get (joined_maps f (map.from_sorted {R = R} theirs) (map.from_sorted {R = R} mine)) q
      ≡ both_of f (map.find R q theirs) (map.find R q mine)
  get-joined theirs mine ht hm q =
      get-joined_maps R f o (map.from_sorted {R = R} theirs) (map.from_sorted {R = R} mine) q
      ∙ (λ i. both_of f (get-from_sorted R theirs q (to_T _ ht) i) (get-from_sorted R mine q (to_T _ hm) i))

  -- where each entry is covered, the join changes nothing
  pub covered_is_below : (theirs mine : List (K × X)) → map.is_sorted R theirs ≡ true → map.is_sorted R mine ≡ true
      → AllWithin (IsCovered R f theirs) mine 0 (length mine)
      → joined_maps f (map.from_sorted {R = R} theirs) (map.from_sorted {R = R} mine) ≡ map.from_sorted {R = R} theirs
  covered_is_below theirs mine ht hm all = same_map o same _ _ (λ q.
      get-joined theirs mine ht hm q ∙ covers_key theirs mine all q ∙ sym (get-from_sorted R theirs q (to_T _ ht)))

  -- as where there is none
  pub none_is_below : (theirs mine : List (K × X)) → map.is_sorted R theirs ≡ true → mine ≡ []
      → joined_maps f (map.from_sorted {R = R} theirs) (map.from_sorted {R = R} mine) ≡ map.from_sorted {R = R} theirs
  none_is_below theirs mine sorted none =
      ap (λ es. joined_maps f (map.from_sorted {R = R} theirs) (map.from_sorted {R = R} es)) none
      ∙ covered_is_below theirs [] sorted refl (λ k d low high. absurd (omega (arith, high)))

  -- and where it changes nothing, each entry is covered
  pub below_is_covered : (theirs mine : List (K × X)) → map.is_sorted R theirs ≡ true → map.is_sorted R mine ≡ true
      → (i : ℕ) (e : K × X) → i < length mine → e ≡ get_or mine i e
      → joined_maps f (map.from_sorted {R = R} theirs) (map.from_sorted {R = R} mine) ≡ map.from_sorted {R = R} theirs
      → IsCovered R f theirs e
  below_is_covered theirs mine ht hm i e within is below =
      let tied : R (get_or mine i e).0 e.0 ≡ _ = ap (λ (x : K × X). R x.0 e.0) (sym is) ∙ tied_itself o e.0 in
      let found = find_at R o e.0 mine hm i e within tied ∙ ap (λ (x : K × X). Some x.1) (sym is) in
      ap (both_of f (map.find R e.0 theirs)) (sym found)
      ∙ sym (get-joined theirs mine ht hm e.0)
      ∙ ap (λ m. map.get m e.0) below
      ∙ get-from_sorted R theirs e.0 (to_T _ ht)
