-- Laws of what a delta has new for a state (`IsNewsOf`).
use Rattle.std.specs.Prelude.{◌≡◌, Option, Some, None}
use Rattle.std.specs.declared.cmp.Ordering.{Ordering}
use Rattle.std.specs.Cmp.{IsTotalOrder}
use Rattle.std.specs.FinMap as map
use Rattle.std.specs.FinMap.{IsAntisymmetric, same_map}
use Rattle.std.proofs.Common.{refl, sym, ap, ◌∙◌}
use Rattle.ps_lattice.specs.Maps.{both_of, joined_maps}
use Rattle.ps_lattice.specs.MapLaws.{IsJoin, get-joined_maps}
use Rattle.ps_lattice.specs.News.{IsNewsOf, HasNothingOf}

module _ {X : Type 0} {f : X → X → X} where
  -- what is new is below the delta
  pub news_below : (s d n : X) → IsNewsOf f s d n → f d n ≡ d
  news_below s d n w = w.least d refl

  -- at most one value is what is new
  pub news_once : IsJoin f → (s d n m : X) → IsNewsOf f s d n → IsNewsOf f s d m → n ≡ m
  news_once law s d n m v w = sym (w.least n v.same) ∙ sym (sym (v.least m w.same) ∙ law.commutative m n)

  -- where the delta is below the state, the least value of all is what is new
  pub news_none : (s d e : X) → ((m : X) → f m e ≡ m) → f s d ≡ s → IsNewsOf f s d e
  news_none s d e least below = record { same = least s ∙ sym below; least = λ m h. least m }

  -- and where the least value of all is what is new, the delta is below the state
  pub none_below : (s d e : X) → ((m : X) → f m e ≡ m) → IsNewsOf f s d e → f s d ≡ s
  none_below s d e least w = sym w.same ∙ least s

  -- what is new has no part of the state
  pub news_has_nothing : IsJoin f → (s d n : X) → IsNewsOf f s d n → HasNothingOf f s n
  news_has_nothing law s d n w p x below is =
      let gives : f s p ≡ f s d =
      ap (λ t. f t p) (sym below) ∙ law.associative s x p ∙ ap (f s) (law.commutative x p ∙ is) ∙ w.same in
      let after : f p n ≡ p = w.least p gives in
      let before : f p n ≡ n =
      ap (f p) (sym is) ∙ sym (law.associative p p x) ∙ ap (λ t. f t x) (law.idempotent p) ∙ is in
      sym after ∙ before

module _ {X : Type 0} (f : X → X → X) where
  pub both_of-None : (m : Option X) → both_of f m None ≡ m
  both_of-None None = refl
  both_of-None (Some x) = refl

module _ {K X : Type 0} (R : K → K → Ordering) (f : X → X → X) (o : IsTotalOrder R) (same : IsAntisymmetric R) where
  -- a map is what is new if its value at each key is
  pub maps_news : (s d n : map.FinMap R X)
      → ((q : K) → IsNewsOf (both_of f) (map.get s q) (map.get d q) (map.get n q)) → IsNewsOf (joined_maps f) s d n
  maps_news s d n at = record {
    same = same_map o same _ _ (λ q.
        get-joined_maps R f o s n q ∙ (at q).same ∙ sym (get-joined_maps R f o s d q));
    least = λ m h. same_map o same _ _ (λ q.
        get-joined_maps R f o m n q
        ∙ (at q).least (map.get m q)
        (sym (get-joined_maps R f o s m q) ∙ ap (λ t. map.get t q) h ∙ get-joined_maps R f o s d q));
  }
