-- What a key holds in a join of maps, and the laws of such joins.
use Rattle.std.specs.Prelude.{◌≡◌, Bool, true, false, cond, List, [], ◌∷◌, Option, Some, None}
use Rattle.std.specs.declared.cmp.Ordering.{Ordering}
use Rattle.std.specs.Ordering.{eq_by_cmp}
use Rattle.std.specs.Cmp.{IsTotalOrder, Equal-is}
use Rattle.std.specs.FinMap as map
use Rattle.std.specs.FinMap.{IsAntisymmetric, get-insert, get_tied, get-entries, same_map, find}
use Rattle.std.proofs.Common.{refl, sym, ap, ◌∙◌}
use Rattle.ps_lattice.specs.Maps.{both_of, joined_with_held, with_entries, joined_maps}

-- f is a join: associative, commutative and idempotent
pub record IsJoin {X : Type 0} (f : X → X → X) : Type 0 where
  pub associative : (x y z : X) → f (f x y) z ≡ f x (f y z)
  pub commutative : (x y : X) → f x y ≡ f y x
  pub idempotent : (x : X) → f x x ≡ x

module _ {X : Type 0} {f : X → X → X} (law : IsJoin f) where
  pub both_of_associative : (x y z : Option X) → both_of f (both_of f x y) z ≡ both_of f x (both_of f y z)
  both_of_associative None y z = refl
  both_of_associative (Some x) None z = refl
  both_of_associative (Some x) (Some y) None = refl
  both_of_associative (Some x) (Some y) (Some z) = ap Some (law.associative x y z)

  pub both_of_commutative : (x y : Option X) → both_of f x y ≡ both_of f y x
  both_of_commutative None None = refl
  both_of_commutative None (Some y) = refl
  both_of_commutative (Some x) None = refl
  both_of_commutative (Some x) (Some y) = ap Some (law.commutative x y)

  pub both_of_idempotent : (x : Option X) → both_of f x x ≡ x
  both_of_idempotent None = refl
  both_of_idempotent (Some x) = ap Some (law.idempotent x)

  pub both_of_is_join : IsJoin (both_of f)
  both_of_is_join = record {
    associative = both_of_associative;
    commutative = both_of_commutative;
    idempotent =
        both_of_idempotent;
  }

both_of-Some : {X : Type 0} (f : X → X → X) (a : Option X) (x : X)
    → Some (joined_with_held f a x) ≡ both_of f a (Some x)
both_of-Some f None x = refl
both_of-Some f (Some w) x = refl

both_of-None : {X : Type 0} (f : X → X → X) (a : Option X) → a ≡ both_of f a None
both_of-None f None = refl
both_of-None f (Some w) = refl

module _ {K X : Type 0} (R : K → K → Ordering) (f : X → X → X) (o : IsTotalOrder R) where
  at_entry : (m n : map.FinMap R X) (e : K × X) (rest : Option X) (q : K) → map.get n q ≡ both_of f (map.get m q) rest
      → (tied : Bool) → eq_by_cmp R q e.0 ≡ tied
      → cond tied (Some (joined_with_held f (map.get m e.0) e.1)) (map.get n q)
      ≡ both_of f (map.get m q) (cond tied (Some e.1) rest)
  at_entry m n e rest q before true t =
      ap (λ a. Some (joined_with_held f a e.1)) (get_tied o m q e.0 ((Equal-is (R q e.0)).0 t))
      ∙ both_of-Some f (map.get m q) e.1
  at_entry m n e rest q before false t = before

  get-with_entries : (m : map.FinMap R X) (es : List (K × X)) (q : K)
      → map.get (with_entries f m es) q ≡ both_of f (map.get m q) (find R q es)
  get-with_entries m [] q = both_of-None f (map.get m q)
  get-with_entries m (e ∷ es) q =
      get-insert o (with_entries f m es) e.0 (joined_with_held f (map.get m e.0) e.1) q
      ∙ at_entry m (with_entries f m es) e (find R q es) q (get-with_entries m es q) (eq_by_cmp R q e.0) refl

  -- what a key holds in the join
  pub get-joined_maps : (m n : map.FinMap R X) (q : K)
      → map.get (joined_maps f m n) q ≡ both_of f (map.get m q) (map.get n q)
  unfolding joined_maps
  get-joined_maps m n q = get-with_entries m (map.entries n) q ∙ ap (both_of f (map.get m q)) (sym (get-entries n q))

  module _ (same : IsAntisymmetric R) (law : IsJoin f) where
    pub maps_associative : (x y z : map.FinMap R X) → joined_maps f (joined_maps f x y) z
        ≡ joined_maps f x (joined_maps f y z)
    maps_associative x y z = same_map o same _ _ (λ q.
        get-joined_maps (joined_maps f x y) z q
        ∙ ap (λ a. both_of f a (map.get z q)) (get-joined_maps x y q)
        ∙ both_of_associative law (map.get x q) (map.get y q) (map.get z q)
        ∙ sym (get-joined_maps x (joined_maps f y z) q ∙ ap (both_of f (map.get x q)) (get-joined_maps y z q)))

    pub maps_commutative : (x y : map.FinMap R X) → joined_maps f x y ≡ joined_maps f y x
    maps_commutative x y = same_map o same _ _ (λ q.
        get-joined_maps x y q ∙ both_of_commutative law (map.get x q) (map.get y q) ∙ sym (get-joined_maps y x q))

    pub maps_idempotent : (x : map.FinMap R X) → joined_maps f x x ≡ x
    maps_idempotent x = same_map o same _ _ (λ q. get-joined_maps x x q ∙ both_of_idempotent law (map.get x q))

    pub maps_is_join : IsJoin (joined_maps {R = R} f)
    maps_is_join = record {
      associative = maps_associative;
      commutative = maps_commutative;
      idempotent =
          maps_idempotent;
    }
