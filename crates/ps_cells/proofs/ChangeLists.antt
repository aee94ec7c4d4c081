-- The list of the cells that show another value than before.
use Rattle.std.proofs.Common.{◌≡◌, ◌≢◌, ℕ, ◌+◌, ◌<◌, ◌≤◌, true, false, List, []}
use Rattle.std.proofs.Common.{◌∷◌, ◌++◌, inr, length, map, take, get_or}
use Rattle.std.proofs.Common.{refl, sym, ap, ◌∙◌, arith, ⊎_elim, eqb, ne_eqb, nat_cmp, subst}
use Rattle.std.specs.Prelude.{if◌then◌else◌, IfSome, Option, Some, None}
use Rattle.std.specs.List.{All, IsDistinct, list_any}
use Rattle.std.specs.List.Sorted.{IsPermutation, IsSorted, IsStrictlyIncreasing}
use Rattle.std.proofs.lemmas.Bool.{cases_eq}
use Rattle.std.proofs.lemmas.List.{get_or-map, length-append, length-map, take-map}
use Rattle.std.proofs.lemmas.List.Elements.{All-cons, All-nil}
use Rattle.std.proofs.lemmas.List.Sorted.{IsNonDecreasingBy-from_sort, list_any-IsPermutation}
use Rattle.std.proofs.lemmas.Map.Keys.{IsDistinct-IsPermutation, IsStrictlyIncreasing-from_distinct}
use Rattle.ps_grid.specs.Chains.{In}
use Rattle.ps_grid.proofs.ChainLemmas.{In-one, In-self, In-more}
use Rattle.ps_value.specs.declared.value.Value.{Value}
use Rattle.ps_eval.specs.Items.{Assignment}
use Rattle.ps_shown.specs.declared.kept.Kept.{Kept}
use Rattle.ps_shown.specs.Kept.{value_of as value_kept}
use Rattle.ps_shown.specs.Shown.{with_value}
use Rattle.ps_cells.specs.ChangedCells.{IsChanged, IsChanges}
use Rattle.ps_cells.specs.Inside.Screens.{Differ, ListsDiffering, cells_in, put_back}
use Rattle.ps_cells.proofs.PutValues.{with_value-here}
use Rattle.ps_cells.proofs.ListedCells.{In-pushed, In-end, In-pushed_cases, fresh_place}
use Rattle.ps_cells.proofs.CyclicLists.{IsDistinct-joined}
use Rattle.ps_cells.proofs.ScreenLemmas.{back_last, back_none, back_there}

-- a cell that isn't in the list keeps its value
pub back_absent : (olds : List (ℕ × Kept)) (v : Assignment) (x : ℕ) → ¬ In (cells_in olds) x → put_back olds v x ≡ v x
unfolding put_back with_value
back_absent [] v x lacks = refl
back_absent (e ∷ olds) v x lacks =
    ap (λ b. if b then value_kept e.1 else put_back olds v x)
    (ne_eqb e.0 x (λ same. lacks (subst (In (cells_in (e ∷ olds))) same (In-self e.0 (cells_in olds)))))
    ∙ back_absent olds v x (λ i. lacks (In-more x e.0 (cells_in olds) i))

-- a cell of the list is not among those before it
pub fresh_old : (olds : List (ℕ × Kept)) (i : ℕ) (e : ℕ × Kept) → IsDistinct eqb (cells_in olds) → i < length olds
    → e ≡ get_or olds i e → ¬ In (cells_in (take i olds)) e.0
fresh_old olds i e once lt is j =
    let first : ℕ × Kept → ℕ = λ q. q.0 in
    let same = length-map olds first in
    let here : get_or (cells_in olds) i e.0 ≡ e.0 = get_or-map first olds i e e.0 lt ∙ ap first (sym is) in
    fresh_place (cells_in olds) i e.0 once (omega (arith, lt, same))
    (subst (λ q. In (take i (cells_in olds)) q) (sym here)
    (subst (λ xs. In xs e.0) (sym (take-map first i olds)) j))

-- of no cells none differs
pub differ_none : (w : Assignment) → Differ w (put_back [] w) []
unfolding IsDistinct
differ_none w = record {
  once = tt;
  exact = λ c. (
    (λ i. absurd (let f : false ≡ true = i in cc)),
    (λ ne. absurd (ne (sym (ap (λ (v : Assignment). v c) (back_none [] w refl))))),
  );
}

-- one more old value is looked at
module _ (ps : List (ℕ × Kept)) (e : ℕ × Kept) (w : Assignment) (absent : ¬ In (cells_in ps) e.0) where
  pub here : put_back (ps ++ e ∷ []) w e.0 ≡ value_kept e.1
  here =
      ap (λ (v : Assignment). v e.0) (back_last ps e w)
      ∙ (back_absent ps (with_value w e.0 (value_kept e.1)) e.0 absent ∙ with_value-here w e.0 (value_kept e.1))

  pub there : (c : ℕ) → c ≢ e.0 → put_back (ps ++ e ∷ []) w c ≡ put_back ps w c
  there c ne = ap (λ (v : Assignment). v c) (back_last ps e w) ∙ back_there ps w e.0 c (value_kept e.1) ne

  module _ (cells : List ℕ) (so_far : Differ w (put_back ps w) cells) where
    not_in : ¬ In cells e.0
    not_in i = (so_far.exact e.0).0 i (sym (back_absent ps w e.0 absent))

    same_more : w e.0 ≡ value_kept e.1 → Differ w (put_back (ps ++ e ∷ []) w) cells
    same_more same = record {
      once = so_far.once;
      exact = λ c. ⊎_elim
          (λ (is : c ≡ e.0). (
            (λ i. absurd (not_in (subst (In cells) is i))),
            (λ ne. absurd (ne (subst (λ q. w q ≡ put_back (ps ++ e ∷ []) w q) (sym is) (same ∙ sym here)))),
          ))
          (λ ne. (
            (λ i eq. (so_far.exact c).0 i (eq ∙ there c ne)),
            (λ d. (so_far.exact c).1 (λ eq. d (eq ∙ sym (there c ne)))),
          ))
          (cases_eq c e.0);
    }

    single : IsDistinct eqb (e.0 ∷ [])
    unfolding IsDistinct
    single = (tt, tt)

    other_more : ¬ (w e.0 ≡ value_kept e.1) → Differ w (put_back (ps ++ e ∷ []) w) (cells ++ e.0 ∷ [])
    other_more differs = record {
      once = IsDistinct-joined cells (e.0 ∷ []) so_far.once single
          (λ c i j. not_in (subst (In cells) (In-one c e.0 j) i));
      exact = λ c. ⊎_elim
          (λ (is : c ≡ e.0). (
            (λ i eq. differs (subst (λ q. w q ≡ put_back (ps ++ e ∷ []) w q) is eq ∙ here)),
            (λ d. subst (In (cells ++ e.0 ∷ [])) (sym is) (In-end cells e.0)),
          ))
          (λ ne. (
            (λ i eq. ⊎_elim (λ j. (so_far.exact c).0 j (eq ∙ there c ne)) (λ is. ne is)
                (In-pushed_cases cells e.0 c i)),
            (λ d. In-pushed cells e.0 c ((so_far.exact c).1 (λ eq. d (eq ∙ sym (there c ne))))),
          ))
          (cases_eq c e.0);
    }

    pub listed_more : (cells2 : List ℕ) → ListsDiffering e w cells cells2 → Differ w (put_back (ps ++ e ∷ []) w) cells2
    listed_more cells2 step =
        ⊎_elim
        (λ same. subst (λ xs. Differ w (put_back (ps ++ e ∷ []) w) xs) (sym same.1) (same_more same.0))
        (λ other. subst (λ xs. Differ w (put_back (ps ++ e ∷ []) w) xs) (sym other.1) (other_more other.0))
        step

-- of one old value the cell differs, where it shows another one
pub changed_one : (e : ℕ × Kept) (w : Assignment) → ¬ (w e.0 ≡ value_kept e.1)
    → IsChanged (put_back (e ∷ []) w) w (e.0 ∷ [])
changed_one e w differs =
    let differ = listed_more [] e w (λ i. absurd (let f : false ≡ true = i in cc)) [] (differ_none w) (e.0 ∷ [])
    (inr (differs, refl)) in
    record { ascending = λ k lt. absurd (omega (arith, lt)); exact = differ.exact }

pub changed_by_one : (olds : List (ℕ × Kept)) (e : ℕ × Kept) (w : Assignment) (r : Option ℕ) → e ∷ [] ≡ olds
    → IfSome r (λ c. (c ≡ e.0) × (¬ (w e.0 ≡ value_kept e.1)))
    → IfSome r (λ c. IsChanged (put_back olds w) w (c ∷ []))
changed_by_one olds e w None one other = tt
changed_by_one olds e w (Some c) one other =
    subst (λ (xs : List (ℕ × Kept)). IsChanged (put_back xs w) w (c ∷ [])) one
    (subst (λ q. IsChanged (put_back (e ∷ []) w) w (q ∷ [])) (sym other.0) (changed_one e w other.1))

pub few_more : (e : ℕ × Kept) (w : Assignment) (cells cells2 : List ℕ) (n : ℕ) → ListsDiffering e w cells cells2
    → length cells ≤ n → length cells2 ≤ n + 1
few_more e w cells cells2 n step few =
    ⊎_elim
    (λ same. let is = ap length same.1 in omega (arith, few, is))
    (λ other. let is = ap length other.1 in let more = length-append cells (e.0 ∷ []) in omega (arith, few, is, more))
    step

firsts_of : (w : Assignment) (cells : List ℕ) → map (λ (e : ℕ × Value). e.0) (map (λ c. (c, w c)) cells) ≡ cells
firsts_of w [] = refl
firsts_of w (c ∷ cells) = ap (λ xs. c ∷ xs) (firsts_of w cells)

values_of : (w : Assignment) (cells : List ℕ) → All (λ (e : ℕ × Value). e.1 ≡ w e.0) (map (λ c. (c, w c)) cells)
values_of w [] = All-nil (λ (e : ℕ × Value). e.1 ≡ w e.0)
values_of w (c ∷ cells) =
    All-cons (λ (e : ℕ × Value). e.1 ≡ w e.0) (c, w c) (map (λ d. (d, w d)) cells) refl (values_of w cells)

flips : (x y : ℕ) → eqb x y ≡ eqb y x
flips x y =
    ⊎_elim
    (λ (same : x ≡ y). subst (λ q. eqb x q ≡ eqb q x) same refl)
    (λ ne. ne_eqb x y ne ∙ sym (ne_eqb y x (λ e. ne (sym e))))
    (cases_eq x y)

-- the cells that differ, in order
pub changed_of : (v w : Assignment) (picked sorted : List ℕ) → Differ w v picked → IsPermutation picked sorted
    → IsSorted nat_cmp sorted → IsChanged v w sorted
changed_of v w picked sorted differ moved rises =
    let same : (c : ℕ) → list_any (eqb c) picked ≡ list_any (eqb c) sorted =
    λ c. list_any-IsPermutation (eqb c) picked sorted moved in
    record {
      ascending = IsStrictlyIncreasing-from_distinct sorted (IsNonDecreasingBy-from_sort (λ x. x) sorted rises)
          (IsDistinct-IsPermutation eqb flips picked sorted moved differ.once);
      exact = λ c. (
        (λ i. (differ.exact c).0 (same c ∙ i)),
        (λ ne. sym (same c) ∙ (differ.exact c).1 ne),
      );
    }

-- and with what they show
pub changes_of : (v w : Assignment) (cells : List ℕ) (changes : List (ℕ × Value)) → IsChanged v w cells
    → changes ≡ map (λ c. (c, w c)) cells → IsChanges v w changes
changes_of v w cells changes changed is =
    let same : map (λ (e : ℕ × Value). e.0) changes ≡ cells =
    ap (map (λ (e : ℕ × Value). e.0)) is ∙ firsts_of w cells in
    record {
      ascending = subst IsStrictlyIncreasing (sym same) changed.ascending;
      exact = λ c. (
        (λ i. (changed.exact c).0 (subst (λ xs. In xs c) same i)),
        (λ ne. subst (λ xs. In xs c) (sym same) ((changed.exact c).1 ne)),
      );
      values = subst (All (λ (e : ℕ × Value). e.1 ≡ w e.0)) (sym is) (values_of w cells);
    }
