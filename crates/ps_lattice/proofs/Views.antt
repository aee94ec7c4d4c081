-- The map that contracts see for a list of entries (its view).
use Rattle.std.proofs.Common.{◌≡◌, length, Bool, true, false, ◌&&◌, cond, List, [], ◌∷◌, ◌==◌, Option, Some, None, refl}
use Rattle.std.proofs.Common.{sym, ap, ◌∙◌, ◌↔◌, IsTrue}
use Rattle.std.specs.declared.cmp.Ordering.{Ordering}
use Rattle.std.specs.List.{list_all}
use Rattle.std.specs.Ordering.{eq_by_cmp, is_eq}
use Rattle.std.specs.Cmp.{IsTotalOrder, Equal-is, tied_itself}
use borrow.Author.Tests.{eqb-true}
use Rattle.std.specs.FinMap as map
use Rattle.std.specs.FinMap.{IsAntisymmetric, same_map, same_entries_map, entries_sorted, entries-from_sorted}
use Rattle.std.specs.FinMap.{get-from_sorted, get-empty, get-insert, get_tied, len-entries, empty_of_len, len-empty}
use Rattle.ps_lattice.specs.Maps.{both_of, joined_with_held, joined_maps}
use Rattle.ps_lattice.specs.MapLaws.{get-joined_maps}
use Rattle.ps_lattice.proofs.Rising.{and_left, to_T, from_T}

module _ {K X : Type 0} (R : K → K → Ordering) where
  -- the entries of a sorted list's map are the list
  pub entries_of : (es : List (K × X)) → map.is_sorted R es ≡ true → es ≡ map.entries (map.from_sorted {R = R} es)
  entries_of es h = sym (entries-from_sorted R es (to_T _ h))

  -- the items of a list that is in order and in range are the entries of its map
  pub items_are : (fits : K × X → Bool) (es items : List (K × X)) (m : map.FinMap R X)
      → (map.is_sorted R es && list_all fits es) ≡ true → items ≡ es → map.from_sorted es ≡ m → items ≡ map.entries m
  items_are fits es items m well is seen =
      is ∙ entries_of es (and_left (map.is_sorted R es) (list_all fits es) well) ∙ ap map.entries seen

  -- a map is the map of its entries
  pub from_entries_of : (m : map.FinMap R X) → map.from_sorted {R = R} (map.entries m) ≡ m
  from_entries_of m = same_entries_map (map.from_sorted {R = R} (map.entries m)) m
      (entries-from_sorted R (map.entries m) (entries_sorted m))

  pub entries_rise : (m : map.FinMap R X) → map.is_sorted R (map.entries m) ≡ true
  entries_rise m = from_T _ (entries_sorted m)

module _ {K X : Type 0} (R : K → K → Ordering) (o : IsTotalOrder R) (same : IsAntisymmetric R) where
  pub seen_empty : map.from_sorted {K = K} {X = X} {R = R} [] ≡ map.empty
  seen_empty = same_map o same _ _ (λ q. get-from_sorted R [] q tt ∙ sym (get-empty R q))

  pub seen_one : (k : K) (x : X) → map.from_sorted {R = R} ((k, x) ∷ []) ≡ map.insert map.empty k x
  seen_one k x = same_map o same _ _ (λ q.
      get-from_sorted R ((k, x) ∷ []) q tt
      ∙ sym (get-insert o map.empty k x q ∙ ap (cond (eq_by_cmp R q k) (Some x)) (get-empty R q)))

  -- a map without entries is empty
  pub empty_by_len : (m : map.FinMap R X) → length (map.entries m) ≡ 0 → m ≡ map.empty
  empty_by_len m e = empty_of_len m (len-entries m ∙ e)

  pub len_by_empty : (m : map.FinMap R X) → m ≡ map.empty → length (map.entries m) ≡ 0
  len_by_empty m e = sym (len-entries m) ∙ ap map.len e ∙ len-empty R X

  pub empty_tells : (m : map.FinMap R X) (b : Bool) → b ≡ (length (map.entries m) == 0) → IsTrue b ↔ (m ≡ map.empty)
  empty_tells m b is = (
    λ h. empty_by_len m (eqb-true (length (map.entries m)) 0 (sym is ∙ h)),
    λ e. is ∙ ap (λ n. n == 0) (len_by_empty m e),
  )

  one_joined : (f : X → X → X) (m : map.FinMap R X) (k : K) (x : X) (q : K) (b : Bool) → eq_by_cmp R q k ≡ b
      → both_of f (map.get m q) (cond b (Some x) None)
      ≡ cond b (Some (joined_with_held f (map.get m k) x)) (map.get m q)
  one_joined f m k x q true t =
      some_joined (map.get m q)
      ∙ ap (λ a. Some (joined_with_held f a x)) (sym (get_tied o m q k ((Equal-is (R q k)).0 t)))
    where
      some_joined : (a : Option X) → both_of f a (Some x) ≡ Some (joined_with_held f a x)
      some_joined None = refl
      some_joined (Some y) = refl
  one_joined f m k x q false t = unchanged (map.get m q)
    where
      unchanged : (a : Option X) → both_of f a None ≡ a
      unchanged None = refl
      unchanged (Some y) = refl

  -- joining one entry in joins its value with what its key holds
  pub joined-one : (f : X → X → X) (m : map.FinMap R X) (k : K) (x : X)
      → joined_maps f m (map.insert map.empty k x) ≡ map.insert m k (joined_with_held f (map.get m k) x)
  joined-one f m k x = same_map o same _ _ (λ q.
      get-joined_maps R f o m (map.insert map.empty k x) q
      ∙ ap (both_of f (map.get m q)) (get-insert o map.empty k x q
      ∙ ap (cond (eq_by_cmp R q k) (Some x)) (get-empty R q))
      ∙ one_joined f m k x q (eq_by_cmp R q k) refl
      ∙ sym (get-insert o m k (joined_with_held f (map.get m k) x) q))

  -- what a key holds once it is set
  pub get_set : (m : map.FinMap R X) (k : K) (x : X) → map.get (map.insert m k x) k ≡ Some x
  get_set m k x = get-insert o m k x k ∙ ap (λ b. cond b (Some x) (map.get m k)) (ap is_eq (tied_itself o k))
