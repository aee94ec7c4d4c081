-- Lists of entries whose keys rise: what is found in them, and where.
use Rattle.std.proofs.Common.{◌≡◌, ℕ, zero, suc, ◌+◌, ◌-◌, ◌<◌, ◌≤◌, Bool, true, false, cond, ◌&&◌, List, [], ◌∷◌}
use Rattle.std.proofs.Common.{length, get_or, Some, None, T, refl, sym, ap, subst, ◌∙◌, arith, add-one}
use native.Mathlib.Numerals.{unary_clauses}
use Rattle.std.specs.declared.cmp.Ordering.{Ordering}
use Rattle.std.specs.declared.cmp.Ordering.TheVariants.{Less, Equal, Greater}
use Rattle.std.specs.Ordering.{is_eq, is_lt, eq_by_cmp, ordering_reverse, ordering_index}
use Rattle.std.specs.Cmp.{IsTotalOrder, Equal-is, tied_back, alike_right}
use Rattle.std.specs.FinMap as map
use Rattle.std.specs.FinMap.Entries.{below_all}
use Rattle.std.specs.List.Sorted.{IsNonDecreasingBy}
use Rattle.std.proofs.Common.{inl, inr}
use Rattle.std.proofs.lemmas.Bool.{cases_lt}

pub to_T : (b : Bool) → b ≡ true → T b
to_T b e = subst T (sym e) tt

pub from_T : (b : Bool) → T b → b ≡ true
from_T true h = refl
from_T false h = absurd h

pub and_left : (a b : Bool) → (a && b) ≡ true → a ≡ true
and_left true b e = refl
and_left false b e = e

pub and_right : (a b : Bool) → (a && b) ≡ true → b ≡ true
and_right true b e = e
and_right false b e = cc

pub and_both : (a b : Bool) → a ≡ true → b ≡ true → (a && b) ≡ true
and_both a b p q = ap (λ v. v && b) p ∙ q

lt_is_less : (r : Ordering) → is_lt r ≡ true → r ≡ Less
lt_is_less Less e = refl
lt_is_less Equal e = cc
lt_is_less Greater e = cc

module _ {K : Type 0} (R : K → K → Ordering) (o : IsTotalOrder R) where
  -- a key that is less ties with nothing greater
  less_apart : (x y : K) → R x y ≡ Less → eq_by_cmp R x y ≡ false
  less_apart x y p = ap is_eq p

  greater_apart : (x y : K) → R x y ≡ Less → eq_by_cmp R y x ≡ false
  greater_apart x y p = ap is_eq (o.antisymm y x ∙ ap ordering_reverse p)

  index_rises_by : (x y k : K) (r : Ordering) → R x y ≡ Less → R y k ≡ r → ordering_index (R x k) ≤ ordering_index r
  index_rises_by x y k Less p q = let e = ap ordering_index (o.trans x y k p q) in omega arith
  index_rises_by x y k Equal p q = let e = ap ordering_index (sym (alike_right o y k x q) ∙ p) in omega arith
  index_rises_by x y k Greater p q = index_at_most (R x k)
    where
      index_at_most : (r : Ordering) → ordering_index r ≤ 2
      index_at_most Less = omega arith
      index_at_most Equal = omega arith
      index_at_most Greater = omega arith

  apart_from : (x k : K) (r : Ordering) → R x k ≡ r → is_eq r ≡ false → eq_by_cmp R k x ≡ false
  apart_from x k Less p q = ap is_eq (o.antisymm k x ∙ ap ordering_reverse p)
  apart_from x k Equal p q = cc
  apart_from x k Greater p q = ap is_eq (o.antisymm k x ∙ ap ordering_reverse p)

module _ {K X : Type 0} (R : K → K → Ordering) (o : IsTotalOrder R) where
  less_first : (x : K) (e : K × X) (es : List (K × X)) → below_all R x (e ∷ es) ≡ true → R x e.0 ≡ Less
  less_first x e es h = lt_is_less (R x e.0) (and_left (is_lt (R x e.0)) (below_all R x es) h)

  below_rest : (x : K) (e : K × X) (es : List (K × X)) → below_all R x (e ∷ es) ≡ true → below_all R x es ≡ true
  below_rest x e es h = and_right (is_lt (R x e.0)) (below_all R x es) h

  pub sorted_head : (e : K × X) (es : List (K × X)) → map.is_sorted R (e ∷ es) ≡ true → below_all R e.0 es ≡ true
  sorted_head e es h = and_left (below_all R e.0 es) (map.is_sorted R es) h

  pub sorted_rest : (e : K × X) (es : List (K × X)) → map.is_sorted R (e ∷ es) ≡ true → map.is_sorted R es ≡ true
  sorted_rest e es h = and_right (below_all R e.0 es) (map.is_sorted R es) h

  -- a key below another one is below all that this one is below
  pub below_chain : (x y : K) (es : List (K × X)) → R x y ≡ Less → below_all R y es ≡ true → below_all R x es ≡ true
  below_chain x y [] p h = refl
  below_chain x y (e ∷ es) p h =
      and_both (is_lt (R x e.0)) (below_all R x es) (ap is_lt (o.trans x y e.0 p (less_first y e es h)))
      (below_chain x y es p (below_rest y e es h))

  -- and so is a key that ties with it
  pub below_tied : (x y : K) (es : List (K × X)) → R x y ≡ Equal → below_all R y es ≡ true → below_all R x es ≡ true
  below_tied x y [] p h = refl
  below_tied x y (e ∷ es) p h =
      and_both (is_lt (R x e.0)) (below_all R x es) (ap is_lt (o.congr x y e.0 p ∙ less_first y e es h))
      (below_tied x y es p (below_rest y e es h))

  pub below_index : (x : K) (es : List (K × X)) → below_all R x es ≡ true
      → (j : ℕ) (d : K × X) → j < length es → R x (get_or es j d).0 ≡ Less
  below_index x [] h j d within = absurd (omega arith)
  below_index x (e ∷ es) h zero d within = less_first x e es h
  below_index x (e ∷ es) h (suc j) d within = below_index x es (below_rest x e es h) j d (omega arith)

  -- a key that is below all isn't found
  pub find_below : (q : K) (es : List (K × X)) → below_all R q es ≡ true → map.find R q es ≡ None
  find_below q [] h = refl
  find_below q (e ∷ es) h =
      ap (λ b. cond b (Some e.1) (map.find R q es)) (less_apart R o q e.0 (less_first q e es h))
      ∙ find_below q es (below_rest q e es h)

  -- nor is one that ties with it
  pub find_tied_below : (q x : K) (es : List (K × X)) → eq_by_cmp R q x ≡ true → below_all R x es ≡ true
      → map.find R q es ≡ None
  find_tied_below q x es tied h = find_below q es (below_tied q x es ((Equal-is (R q x)).0 tied) h)

  -- the comparisons with a key rise along the list, as a binary search asks
  pub comparisons_rise : (k : K) (es : List (K × X)) → map.is_sorted R es ≡ true
      → IsNonDecreasingBy (λ e. ordering_index (R e.0 k)) es
  comparisons_rise k [] h i j d le within = absurd (omega arith)
  comparisons_rise k (e ∷ es) h zero zero d le within = omega arith
  comparisons_rise k (e ∷ es) h zero (suc j) d le within =
      index_rises_by R o e.0 (get_or es j d).0 k (R (get_or es j d).0 k)
      (below_index e.0 es (sorted_head e es h) j d (omega arith)) refl
  comparisons_rise k (e ∷ es) h (suc i) zero d le within = absurd (omega arith)
  comparisons_rise k (e ∷ es) h (suc i) (suc j) d le within =
      comparisons_rise k es (sorted_rest e es h) i j d (omega arith) (omega arith)

  -- the value at a place whose key ties is found
  pub find_at : (k : K) (es : List (K × X)) → map.is_sorted R es ≡ true
      → (at : ℕ) (d : K × X) → at < length es → R (get_or es at d).0 k ≡ Equal
      → map.find R k es ≡ Some (get_or es at d).1
  find_at k [] h at d within tied = absurd (omega arith)
  find_at k (e ∷ es) h zero d within tied =
      ap (λ b. cond b (Some e.1) (map.find R k es)) (ap is_eq (tied_back o e.0 k tied))
  find_at k (e ∷ es) h (suc at) d within tied =
      let less : R e.0 k ≡ Less =
      sym (alike_right o (get_or es at d).0 k e.0 tied) ∙ below_index e.0 es (sorted_head e es h) at d (omega arith) in
      ap (λ b. cond b (Some e.1) (map.find R k es)) (greater_apart R o e.0 k less)
      ∙ find_at k es (sorted_rest e es h) at d (omega arith) tied

  -- a key that ties nowhere isn't found
  pub find_nowhere : (k : K) (es : List (K × X))
      → ((j : ℕ) (d : K × X) → j < length es → eq_by_cmp R k (get_or es j d).0 ≡ false) → map.find R k es ≡ None
  find_nowhere k [] apart = refl
  find_nowhere k (e ∷ es) apart =
      ap (λ b. cond b (Some e.1) (map.find R k es)) (apart 0 e (omega arith))
      ∙ find_nowhere k es (λ j d within. apart (suc j) d (omega arith))

  -- what a binary search that ends in a gap says
  pub find_in_gap : (k : K) (es : List (K × X)) (at : ℕ)
      → ((j : ℕ) (d : K × X) → 0 ≤ j → j < at → R (get_or es j d).0 k ≡ Less)
      → ((j : ℕ) (d : K × X) → at ≤ j → j < length es → R (get_or es j d).0 k ≡ Greater)
      → map.find R k es ≡ None
  find_in_gap k es at before after = find_nowhere k es (λ j d within. elim (cases_lt j at) [
    | inl lt ↦ apart_from R o (get_or es j d).0 k Less (before j d (omega arith) lt) refl
    | inr ge ↦ apart_from R o (get_or es j d).0 k Greater (after j d ge within) refl
  ])

  -- each key less than the next: the keys rise
  pub adjacent_sorted : (es : List (K × X))
      → ((k : ℕ) (d : K × X) → k + 1 < length es → R (get_or es k d).0 (get_or es (k + 1) d).0 ≡ Less)
      → map.is_sorted R es ≡ true
  adjacent_sorted [] rise = refl
  adjacent_sorted (e ∷ []) rise = refl
  adjacent_sorted (e ∷ f ∷ es) rise =
      let rest = adjacent_sorted (f ∷ es) (λ k d within. rw add-one
      (simp unary_clauses at (rise (suc k) d (omega arith)))) in
      let less : R e.0 f.0 ≡ Less = rise 0 e (omega arith) in
      and_both (below_all R e.0 (f ∷ es)) (map.is_sorted R (f ∷ es))
      (and_both (is_lt (R e.0 f.0)) (below_all R e.0 es) (ap is_lt less)
      (below_chain e.0 f.0 es less (sorted_head f es rest))) rest

  -- in a list whose keys rise, a key is less than the next
  sorted_adjacent : (es : List (K × X)) → map.is_sorted R es ≡ true
      → (k : ℕ) (d f : K × X) → suc k < length es → R (get_or es k d).0 (get_or es (suc k) f).0 ≡ Less
  sorted_adjacent [] h k d f within = absurd (omega arith)
  sorted_adjacent (e ∷ es) h zero d f within = below_index e.0 es (sorted_head e es h) 0 f (omega arith)
  sorted_adjacent (e ∷ es) h (suc k) d f within = sorted_adjacent es (sorted_rest e es h) k d f (omega arith)

  not_sorted_by : (es : List (K × X)) (k : ℕ) (a b : K × X) → suc k < length es
      → a ≡ get_or es k a → b ≡ get_or es (suc k) b → is_lt (R a.0 b.0) ≡ false
      → (v : Bool) → map.is_sorted R es ≡ v → false ≡ v
  not_sorted_by es k a b within at_a at_b ge true h =
      let less : R (get_or es k a).0 (get_or es (suc k) b).0 ≡ Less = sorted_adjacent es h k a b within in
      sym ge ∙ ap (λ (p : (K × X) × (K × X)). is_lt (R p.0.0 p.1.0)) (λ i. (at_a i, at_b i)) ∙ ap is_lt less
  not_sorted_by es k a b within at_a at_b ge false h = refl

  -- two neighbours, the first not less than the second
  pub not_sorted : (es : List (K × X)) (i : ℕ) (a b : K × X) → 1 ≤ i → i < length es
      → a ≡ get_or es (i - 1) a → b ≡ get_or es i b → is_lt (R a.0 b.0) ≡ false → false ≡ map.is_sorted R es
  not_sorted es zero a b low within at_a at_b ge = absurd (omega arith)
  not_sorted es (suc k) a b low within at_a at_b ge =
      not_sorted_by es k a b within (simp unary_clauses at at_a) at_b ge (map.is_sorted R es) refl
