-- Where a key belongs in a list, and a list merged with a few entries at their places.
use Rattle.std.proofs.Common.{◌≡◌, ℕ, zero, suc, ◌+◌, ◌-◌, ◌<◌, ◌≤◌, length, get_or, take, drop, Bool, true, false}
use Rattle.std.proofs.Common.{List, [], ◌∷◌, ◌++◌, refl, sym, ap, subst, ◌∙◌, arith}
use mathlib.Core.Bool.{false≢true}
use Rattle.std.proofs.lemmas.List.{take_rest, get_or-drop, length-drop, drop-drop, drop_more, append_assoc}
use Rattle.std.specs.List.Sorted.{IsNonDecreasingBy, IsPartitionPoint}
use Rattle.std.specs.declared.cmp.Ordering.{Ordering}
use Rattle.std.specs.declared.cmp.Ordering.TheVariants.{Less, Equal, Greater}
use Rattle.std.specs.Ordering.{ordering_index}
use Rattle.std.specs.Cmp.{IsTotalOrder, alike_right}
use Rattle.std.specs.FinMap as map
use Rattle.std.specs.FinMap.{IsAntisymmetric}
use Rattle.ps_lattice.specs.Inside.Places.{IsPlace}
use Rattle.ps_lattice.proofs.Rising.{sorted_head, sorted_rest, below_index, comparisons_rise}
use Rattle.ps_lattice.proofs.Merging.{merged, merged_equal, merged_greater, merged_run}

-- the list from a place on
abbrev rest_of : {A : Type 0} → List A → ℕ → List A
rest_of es from = take (length es - from) (drop from es)

slice_at : {A : Type 0} (es : List A) (from at : ℕ) (d : A) → get_or (rest_of es from) at d ≡ get_or es (from + at) d
slice_at es from at d = ap (λ l. get_or l at d) (take_rest es from) ∙ get_or-drop from es at d

slice_length : {A : Type 0} (es : List A) (from : ℕ) → length (rest_of es from) ≡ length es - from
slice_length es from = ap length (take_rest es from) ∙ length-drop from es

module _ {K X : Type 0} (R : K → K → Ordering) (o : IsTotalOrder R) where
  sorted_from : (es : List (K × X)) (from : ℕ) → map.is_sorted R es ≡ true → map.is_sorted R (drop from es) ≡ true
  sorted_from es zero h = h
  sorted_from [] (suc from) h = h
  sorted_from (e ∷ es) (suc from) h = sorted_from es from (sorted_rest R o e es h)

  -- a key is below each later one
  pub sorted_far : (es : List (K × X)) → map.is_sorted R es ≡ true → (i j : ℕ) (d f : K × X) → i < j → j < length es
      → R (get_or es i d).0 (get_or es j f).0 ≡ Less
  sorted_far [] h i j d f less within = absurd (omega arith)
  sorted_far (e ∷ es) h i zero d f less within = absurd (omega arith)
  sorted_far (e ∷ es) h zero (suc j) d f less within =
      below_index R o e.0 es (sorted_head R o e es h) j f (omega arith)
  sorted_far (e ∷ es) h (suc i) (suc j) d f less within =
      sorted_far es (sorted_rest R o e es h) i j d f (omega arith) (omega arith)

  -- the comparisons with a key rise from a place on
  pub rise_from : (k : K) (es : List (K × X)) (from : ℕ) → map.is_sorted R es ≡ true
      → IsNonDecreasingBy (λ e. ordering_index (R e.0 k)) (rest_of es from)
  rise_from k es from h =
      subst (λ l. IsNonDecreasingBy (λ (e : K × X). ordering_index (R e.0 k)) l) (sym (take_rest es from))
      (comparisons_rise R o k (drop from es) (sorted_from es from h))

  -- the key is where a search found it
  pub place_found : (k : K) (es : List (K × X)) (from at : ℕ) → map.is_sorted R es ≡ true → from ≤ length es
      → at < length (rest_of es from) → ((d : K × X) → R (get_or (rest_of es from) at d).0 k ≡ Equal)
      → IsPlace R es from k (from + at) true
  place_found k es from at h start within tied =
      let size = slice_length es from in
      let here : (d : K × X) → R (get_or es (from + at) d).0 k ≡ Equal =
      λ d. ap (λ (e : K × X). R e.0 k) (sym (slice_at es from at d)) ∙ tied d in
      record {
        low = omega arith;
        high = omega arith;
        before = λ j d low high.
            sym (alike_right o (get_or es (from + at) d).0 k (get_or es j d).0 (here d))
            ∙ sorted_far es h j (from + at) d d high (omega arith);
        within = λ _. omega arith;
        here = λ _. here;
        after = λ h. absurd (false≢true (sym h));
      }

  -- or the search ended in a gap
  pub place_in_gap : (k : K) (es : List (K × X)) (from at : ℕ) → from ≤ length es → at ≤ length (rest_of es from)
      → IsPartitionPoint (λ e. R e.0 k ≡ Less) (λ e. R e.0 k ≡ Greater) (rest_of es from) at
      → IsPlace R es from k (from + at) false
  place_in_gap k es from at start within parted =
      let size = slice_length es from in
      record {
        low = omega arith;
        high = omega arith;
        before = λ j d low high.
            let same : from + (j - from) ≡ j = omega arith in
            ap (λ (e : K × X). R e.0 k) (sym (slice_at es from (j - from) d ∙ ap (λ n. get_or es n d) same))
            ∙ parted.0 (j - from) d (omega arith) (omega arith);
        within = λ h. absurd (false≢true h);
        here = λ h. absurd (false≢true h);
        after = λ _ d high.
            ap (λ (e : K × X). R e.0 k) (sym (slice_at es from at d)) ∙ parted.1 at d (omega arith) (omega arith);
      }

module _ {K X : Type 0} (R : K → K → Ordering) (f : X → X → X) (all total many ys : List (K × X)) (y : K × X)
    (i at : ℕ) (there : Bool) (place : IsPlace R many i y.0 at there)
    (so_far : all ++ merged R f (drop i many) (y ∷ ys) ≡ total) where
  -- the entries up to the place come first
  run : merged R f (drop i many) (y ∷ ys) ≡ take (at - i) (drop i many) ++ merged R f (drop at many) (y ∷ ys)
  run =
      let low = place.low in
      let high = place.high in
      let size = length-drop i many in
      let sum : i + (at - i) ≡ at = omega arith in
      merged_run R f y ys (drop i many) (at - i) (omega arith)
      (λ j d less. ap (λ (e : K × X). R e.0 y.0) (get_or-drop i many j d)
      ∙ place.before (i + j) d (omega arith) (omega arith))
      ∙ ap (λ l. take (at - i) (drop i many) ++ merged R f l (y ∷ ys))
      (drop-drop (at - i) i many ∙ ap (λ n. drop n many) sum)

  then_run : (one : K × X) (rest : List (K × X)) → merged R f (drop at many) (y ∷ ys) ≡ one ∷ rest
      → ((all ++ take (at - i) (drop i many)) ++ one ∷ []) ++ rest ≡ total
  then_run one rest is =
      append_assoc (all ++ take (at - i) (drop i many)) (one ∷ []) rest
      ∙ append_assoc all (take (at - i) (drop i many)) (one ∷ rest)
      ∙ ap (λ l. all ++ (take (at - i) (drop i many) ++ l)) (sym is)
      ∙ ap (λ l. all ++ l) (sym run)
      ∙ so_far

  -- then both entries of the key as one
  pub few_there : IsAntisymmetric R → (d : K × X) → there ≡ true
      → ((all ++ take (at - i) (drop i many)) ++ (y.0, f (get_or many at d).1 y.1) ∷ [])
      ++ merged R f (drop (at + 1) many) ys ≡ total
  few_there same d h =
      let x : K × X = get_or many at d in
      let rest = drop (at + 1) many in
      let tied : R x.0 y.0 ≡ Equal = place.here h d in
      then_run (y.0, f x.1 y.1) (merged R f rest ys)
      (ap (λ l. merged R f l (y ∷ ys)) (drop_more many at d (place.within h))
      ∙ merged_equal R f x y rest ys tied
      ∙ ap (λ k. (k, f x.1 y.1) ∷ merged R f rest ys) (same x.0 y.0 tied))

  gap : (l : List (K × X)) → ((d : K × X) → 0 < length l → R (get_or l 0 d).0 y.0 ≡ Greater)
      → merged R f l (y ∷ ys) ≡ y ∷ merged R f l ys
  gap [] after = refl
  gap (x ∷ l) after = merged_greater R f x y l ys (after x (omega arith))

  -- or the entry alone
  pub few_alone : there ≡ false
      → ((all ++ take (at - i) (drop i many)) ++ y ∷ []) ++ merged R f (drop at many) ys ≡ total
  few_alone h =
      then_run y (merged R f (drop at many) ys)
      (gap (drop at many) (λ d some.
      let size = length-drop at many in
      let zero_more : at + 0 ≡ at = omega arith in
      ap (λ (e : K × X). R e.0 y.0) (get_or-drop at many 0 d ∙ ap (λ n. get_or many n d) zero_more)
      ∙ place.after h d (omega arith)))
