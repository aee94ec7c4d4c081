-- Two lists of entries merged in the order of their keys: the entries of their join.
use Rattle.std.proofs.Common.{◌≡◌, ℕ, zero, suc, ◌<◌, ◌≤◌, length, get_or, take, drop, append-nil, Bool, true, false}
use Rattle.std.proofs.Common.{cond, List, [], ◌∷◌, ◌++◌, Option, Some, None, refl, sym, ap, ◌∙◌, arith}
use Rattle.std.proofs.lemmas.List.{drop_all}
use Rattle.std.proofs.lemmas.List.Elements.{All-from_recursion, recursion_from_All}
use Rattle.std.specs.List.{All, AllByRecursion}
use Rattle.std.specs.declared.cmp.Ordering.{Ordering}
use Rattle.std.specs.declared.cmp.Ordering.TheVariants.{Less, Equal, Greater}
use Rattle.std.specs.Ordering.{is_eq, is_lt, eq_by_cmp, ordering_reverse}
use Rattle.std.specs.Cmp.{IsTotalOrder, alike_right}
use Rattle.std.specs.FinMap as map
use Rattle.std.specs.FinMap.{IsAntisymmetric, same_map, get-from_sorted, entries-from_sorted}
use Rattle.std.specs.FinMap.Entries.{below_all, by_order}
use Rattle.ps_lattice.specs.Maps.{both_of, joined_maps}
use Rattle.ps_lattice.specs.MapLaws.{get-joined_maps}
use Rattle.ps_lattice.proofs.Rising.{to_T, and_left, and_right, and_both, sorted_head, sorted_rest, below_chain}
use Rattle.ps_lattice.proofs.Rising.{below_tied, find_tied_below}

abbrev merged_in : {K X : Type 0} (R : K → K → Ordering) (f : X → X → X) → K × X → (List (K × X) → List (K × X))
    → List (K × X) → List (K × X)
merged_in R f x rest [] = x ∷ rest []
merged_in R f x rest (y ∷ ys) =
    by_order (R x.0 y.0) (x ∷ rest (y ∷ ys)) ((x.0, f x.1 y.1) ∷ rest ys) (y ∷ merged_in R f x rest ys)

-- the smaller first entry first, and entries of one key as one
abbrev pub merged : {K X : Type 0} (R : K → K → Ordering) (f : X → X → X) → List (K × X) → List (K × X) → List (K × X)
merged R f [] ys = ys
merged R f (x ∷ xs) ys = merged_in R f x (merged R f xs) ys

module _ {K X : Type 0} (R : K → K → Ordering) (f : X → X → X) where
  pub merged_less : (x y : K × X) (xs ys : List (K × X)) → R x.0 y.0 ≡ Less
      → merged R f (x ∷ xs) (y ∷ ys) ≡ x ∷ merged R f xs (y ∷ ys)
  merged_less x y xs ys p =
      ap (λ r. by_order r (x ∷ merged R f xs (y ∷ ys)) ((x.0, f x.1 y.1) ∷ merged R f xs ys)
      (y ∷ merged R f (x ∷ xs) ys)) p

  pub merged_equal : (x y : K × X) (xs ys : List (K × X)) → R x.0 y.0 ≡ Equal
      → merged R f (x ∷ xs) (y ∷ ys) ≡ (x.0, f x.1 y.1) ∷ merged R f xs ys
  merged_equal x y xs ys p =
      ap (λ r. by_order r (x ∷ merged R f xs (y ∷ ys)) ((x.0, f x.1 y.1) ∷ merged R f xs ys)
      (y ∷ merged R f (x ∷ xs) ys)) p

  pub merged_greater : (x y : K × X) (xs ys : List (K × X)) → R x.0 y.0 ≡ Greater
      → merged R f (x ∷ xs) (y ∷ ys) ≡ y ∷ merged R f (x ∷ xs) ys
  merged_greater x y xs ys p =
      ap (λ r. by_order r (x ∷ merged R f xs (y ∷ ys)) ((x.0, f x.1 y.1) ∷ merged R f xs ys)
      (y ∷ merged R f (x ∷ xs) ys)) p

  pub merged-nil : (xs : List (K × X)) → merged R f xs [] ≡ xs
  merged-nil [] = refl
  merged-nil (x ∷ xs) = ap (λ l. x ∷ l) (merged-nil xs)

  -- entries of the left list that are below the next one of the right list come first
  pub merged_run : (y : K × X) (ys xs : List (K × X)) (n : ℕ) → n ≤ length xs
      → ((j : ℕ) (d : K × X) → j < n → R (get_or xs j d).0 y.0 ≡ Less)
      → merged R f xs (y ∷ ys) ≡ take n xs ++ merged R f (drop n xs) (y ∷ ys)
  merged_run y ys xs zero within before = refl
  merged_run y ys [] (suc n) within before = absurd (omega arith)
  merged_run y ys (x ∷ xs) (suc n) within before =
      merged_less x y xs ys (before 0 x (omega arith))
      ∙ ap (λ l. x ∷ l) (merged_run y ys xs n (omega arith) (λ j d low. before (suc j) d (omega arith)))

  -- once one of two lists has ended, the rest of the other follows
  pub ended_left : (all xs ys total : List (K × X)) (i j : ℕ) → length xs ≤ i
      → all ++ merged R f (drop i xs) (drop j ys) ≡ total → (all ++ drop i xs) ++ drop j ys ≡ total
  ended_left all xs ys total i j ended e =
      let gone = drop_all i xs ended in
      ap (λ l. l ++ drop j ys) (ap (λ l. all ++ l) gone ∙ append-nil all)
      ∙ sym (ap (λ l. all ++ merged R f l (drop j ys)) gone) ∙ e

  pub ended_right : (all xs ys total : List (K × X)) (i j : ℕ) → length ys ≤ j
      → all ++ merged R f (drop i xs) (drop j ys) ≡ total → (all ++ drop i xs) ++ drop j ys ≡ total
  ended_right all xs ys total i j ended e =
      let gone = drop_all j ys ended in
      ap (λ l. (all ++ drop i xs) ++ l) gone ∙ append-nil (all ++ drop i xs)
      ∙ sym (ap (λ l. all ++ l) (ap (merged R f (drop i xs)) gone ∙ merged-nil (drop i xs))) ∙ e

  module _ (P : K × X → Type 0) (keeps : (a b : K × X) → P a → P b → P (a.0, f a.1 b.1)) where
    all_step : (x : K × X) (xs : List (K × X)) → P x
        → ((ys : List (K × X)) → AllByRecursion P ys → AllByRecursion P (merged R f xs ys))
        → (ys : List (K × X)) → AllByRecursion P ys → AllByRecursion P (merged R f (x ∷ xs) ys)
    all_step x xs px before [] hy = (px, before [] tt)
    all_step x xs px before (y ∷ ys) hy =
        elim (R x.0 y.0) as (λ r. AllByRecursion P (by_order r (x ∷ merged R f xs (y ∷ ys))
        ((x.0, f x.1 y.1) ∷ merged R f xs ys) (y ∷ merged R f (x ∷ xs) ys))) [
          | Less ↦ (px, before (y ∷ ys) hy)
          | Equal ↦ (keeps x y px hy.0, before ys hy.1)
          | Greater ↦ (hy.0, all_step x xs px before ys hy.1)
        ]

    all_by_recursion : (xs ys : List (K × X)) → AllByRecursion P xs → AllByRecursion P ys
        → AllByRecursion P (merged R f xs ys)
    all_by_recursion [] ys hx hy = hy
    all_by_recursion (x ∷ xs) ys hx hy = all_step x xs hx.0 (λ ys hy. all_by_recursion xs ys hx.1 hy) ys hy

    -- a fact of each entry that joining keeps is a fact of the merged list
    pub All-merged : (xs ys : List (K × X)) → All P xs → All P ys → All P (merged R f xs ys)
    All-merged xs ys hx hy = All-from_recursion P (merged R f xs ys)
        (all_by_recursion xs ys (recursion_from_All P xs hx) (recursion_from_All P ys hy))

module _ {K X : Type 0} (R : K → K → Ordering) (f : X → X → X) (o : IsTotalOrder R) where
  below_step : (k : K) (x : K × X) (xs : List (K × X)) → is_lt (R k x.0) ≡ true
      → ((ys : List (K × X)) → below_all R k ys ≡ true → below_all R k (merged R f xs ys) ≡ true)
      → (ys : List (K × X)) → below_all R k ys ≡ true → below_all R k (merged R f (x ∷ xs) ys) ≡ true
  below_step k x xs less before [] hy = and_both _ _ less (before [] refl)
  below_step k x xs less before (y ∷ ys) hy =
      elim (R x.0 y.0) as (λ r. below_all R k (by_order r (x ∷ merged R f xs (y ∷ ys))
      ((x.0, f x.1 y.1) ∷ merged R f xs ys) (y ∷ merged R f (x ∷ xs) ys)) ≡ true) [
        | Less ↦ and_both _ _ less (before (y ∷ ys) hy)
        | Equal ↦ and_both _ _ less (before ys (and_right (is_lt (R k y.0)) _ hy))
        | Greater ↦ and_both _ _ (and_left (is_lt (R k y.0)) _ hy) (below_step k x xs less before ys
            (and_right (is_lt (R k y.0)) _ hy))
      ]

  below_merged : (k : K) (xs ys : List (K × X)) → below_all R k xs ≡ true → below_all R k ys ≡ true
      → below_all R k (merged R f xs ys) ≡ true
  below_merged k [] ys hx hy = hy
  below_merged k (x ∷ xs) ys hx hy =
      below_step k x xs (and_left (is_lt (R k x.0)) _ hx) (λ ys hy.
      below_merged k xs ys (and_right (is_lt (R k x.0)) _ hx) hy) ys hy

  less_from : (x y : K) → R x y ≡ Greater → R y x ≡ Less
  less_from x y p = o.antisymm y x ∙ ap ordering_reverse p

  below_cons : (x : K) (y : K × X) (ys : List (K × X)) → R x y.0 ≡ Less → map.is_sorted R (y ∷ ys) ≡ true
      → below_all R x (y ∷ ys) ≡ true
  below_cons x y ys p h = and_both _ _ (ap is_lt p) (below_chain R o x y.0 ys p (sorted_head R o y ys h))

  sorted_step : (x : K × X) (xs : List (K × X)) → map.is_sorted R (x ∷ xs) ≡ true
      → ((ys : List (K × X)) → map.is_sorted R ys ≡ true → map.is_sorted R (merged R f xs ys) ≡ true)
      → (ys : List (K × X)) → map.is_sorted R ys ≡ true → map.is_sorted R (merged R f (x ∷ xs) ys) ≡ true
  sorted_step x xs hx before [] hy = and_both _ _ (below_merged x.0 xs [] (sorted_head R o x xs hx) refl)
      (before [] refl)
  sorted_step x xs hx before (y ∷ ys) hy =
      elim (R x.0 y.0) as (λ r. R x.0 y.0 ≡ r → map.is_sorted R (by_order r (x ∷ merged R f xs (y ∷ ys))
      ((x.0, f x.1 y.1) ∷ merged R f xs ys) (y ∷ merged R f (x ∷ xs) ys)) ≡ true) [
        | Less ↦ λ p. and_both _ _ (below_merged x.0 xs (y ∷ ys) (sorted_head R o x xs hx) (below_cons x.0 y ys p hy))
            (before (y ∷ ys) hy)
        | Equal ↦ λ p. and_both _ _ (below_merged x.0 xs ys (sorted_head R o x xs hx)
            (below_tied R o x.0 y.0 ys p (sorted_head R o y ys hy)))
            (before ys (sorted_rest R o y ys hy))
        | Greater ↦ λ p. and_both _ _ (below_merged y.0 (x ∷ xs) ys (below_cons y.0 x xs (less_from x.0 y.0 p) hx)
            (sorted_head R o y ys hy))
            (sorted_step x xs hx before ys (sorted_rest R o y ys hy))
      ] refl

  pub sorted_merged : (xs ys : List (K × X)) → map.is_sorted R xs ≡ true → map.is_sorted R ys ≡ true
      → map.is_sorted R (merged R f xs ys) ≡ true
  sorted_merged [] ys hx hy = hy
  sorted_merged (x ∷ xs) ys hx hy = sorted_step x xs hx (λ ys hy.
      sorted_merged xs ys (sorted_rest R o x xs hx) hy) ys hy

  -- the left entry, where the right list has nothing at its key
  left_step : (q : K) (x : K × X) (xs ys : List (K × X)) (rest : Option X)
      → rest ≡ both_of f (map.find R q xs) (map.find R q ys)
      → (b : Bool) → eq_by_cmp R q x.0 ≡ b → (b ≡ true → map.find R q ys ≡ None)
      → cond b (Some x.1) rest ≡ both_of f (cond b (Some x.1) (map.find R q xs)) (map.find R q ys)
  left_step q x xs ys rest before true t none = sym (ap (both_of f (Some x.1)) (none refl))
  left_step q x xs ys rest before false t none = before

  -- the right entry, where the left list has nothing at its key
  right_step : (q : K) (y : K × X) (left : Option X) (ys : List (K × X)) (rest : Option X)
      → rest ≡ both_of f left (map.find R q ys)
      → (b : Bool) → (b ≡ true → left ≡ None)
      → cond b (Some y.1) rest ≡ both_of f left (cond b (Some y.1) (map.find R q ys))
  right_step q y left ys rest before true none = sym (ap (λ a. both_of f a (Some y.1)) (none refl))
  right_step q y left ys rest before false none = before

  -- entries of one key
  both_step : (x y : K × X) (left right rest : Option X) → rest ≡ both_of f left right
      → (b : Bool) → cond b (Some (f x.1 y.1)) rest ≡ both_of f (cond b (Some x.1) left) (cond b (Some y.1) right)
  both_step x y left right rest before true = refl
  both_step x y left right rest before false = before

  same_tie : (q x y : K) → R x y ≡ Equal → eq_by_cmp R q x ≡ eq_by_cmp R q y
  same_tie q x y p = ap is_eq (alike_right o x y q p)

  find_step : (q : K) (x : K × X) (xs : List (K × X)) → map.is_sorted R (x ∷ xs) ≡ true
      → ((ys : List (K × X)) → map.is_sorted R ys ≡ true → map.find R q (merged R f xs ys)
      ≡ both_of f (map.find R q xs) (map.find R q ys))
      → (ys : List (K × X)) → map.is_sorted R ys ≡ true
      → map.find R q (merged R f (x ∷ xs) ys) ≡ both_of f (map.find R q (x ∷ xs)) (map.find R q ys)
  find_step q x xs hx before [] hy = left_step q x xs [] _ (before [] refl) (eq_by_cmp R q x.0) refl (λ _. refl)
  find_step q x xs hx before (y ∷ ys) hy =
      elim (R x.0 y.0) as (λ r. R x.0 y.0 ≡ r → map.find R q (by_order r (x ∷ merged R f xs (y ∷ ys))
      ((x.0, f x.1 y.1) ∷ merged R f xs ys) (y ∷ merged R f (x ∷ xs) ys))
      ≡ both_of f (map.find R q (x ∷ xs)) (map.find R q (y ∷ ys))) [
        | Less ↦ λ p. left_step q x xs (y ∷ ys) _ (before (y ∷ ys) hy) (eq_by_cmp R q x.0) refl
            (λ t. find_tied_below R o q x.0 (y ∷ ys) t (below_cons x.0 y ys p hy))
        | Equal ↦ λ p.
            both_step x y (map.find R q xs) (map.find R q ys) _ (before ys (sorted_rest R o y ys hy))
            (eq_by_cmp R q x.0)
            ∙ ap (λ b. both_of f (map.find R q (x ∷ xs)) (cond b (Some y.1) (map.find R q ys))) (same_tie q x.0 y.0 p)
        | Greater ↦ λ p. right_step q y (map.find R q (x ∷ xs)) ys _
            (find_step q x xs hx before ys (sorted_rest R o y ys hy)) (eq_by_cmp R q y.0)
            (λ t. find_tied_below R o q y.0 (x ∷ xs) t (below_cons y.0 x xs (less_from x.0 y.0 p) hx))
      ] refl

  -- what is found in the merged list
  pub find-merged : (q : K) (xs ys : List (K × X)) → map.is_sorted R xs ≡ true → map.is_sorted R ys ≡ true
      → map.find R q (merged R f xs ys) ≡ both_of f (map.find R q xs) (map.find R q ys)
  find-merged q [] ys hx hy = refl
  find-merged q (x ∷ xs) ys hx hy = find_step q x xs hx (λ ys hy.
      find-merged q xs ys (sorted_rest R o x xs hx) hy) ys hy

  -- the merged list has the entries of the join
  pub entries-joined : IsAntisymmetric R → (xs ys : List (K × X)) → map.is_sorted R xs ≡ true
      → map.is_sorted R ys ≡ true
      → merged R f xs ys ≡ map.entries (joined_maps f (map.from_sorted {R = R} xs) (map.from_sorted {R = R} ys))
  entries-joined same xs ys hx hy =
      let sorted = to_T _ (sorted_merged xs ys hx hy) in
      sym (entries-from_sorted R (merged R f xs ys) sorted)
      ∙ ap map.entries (same_map o same (map.from_sorted {R = R} (merged R f xs ys))
      (joined_maps f (map.from_sorted {R = R} xs) (map.from_sorted {R = R} ys)) (λ q.
      get-from_sorted R (merged R f xs ys) q sorted
      ∙ find-merged q xs ys hx hy
      ∙ sym (get-joined_maps R f o (map.from_sorted {R = R} xs) (map.from_sorted {R = R} ys) q
      ∙ (λ i. both_of f (get-from_sorted R xs q (to_T _ hx) i) (get-from_sorted R ys q (to_T _ hy) i)))))
