-- Where a cell without a formula gets another content without one, its region stays.
use Rattle.std.proofs.Common.{◌≡◌, ◌≢◌, ℕ, Bool, false, List, [], ◌∷◌, sym, ap, ◌∙◌, ⊎_elim, subst}
use Rattle.std.specs.Prelude.{Option, None, Some, IfSome}
use Rattle.std.proofs.Math.Path.{fun_ext}
use Rattle.std.proofs.lemmas.Bool.{cases_eq}
use Rattle.ps_grid.specs.Chains.{References}
use Rattle.ps_grid.proofs.ChainLemmas.{bool_cases, In-one, In-self}
use Rattle.ps_grid.proofs.RegionLemmas.{InRegion-touched}
use Rattle.ps_region.specs.Found.{Found, IsFound, has_left}
use Rattle.ps_eval.specs.Items.{Assignment}
use Rattle.ps_delta.specs.State.{State}
use Rattle.ps_delta.specs.declared.cell_state.CellState.{CellState}
use Rattle.ps_cells.specs.Settled.{content_of, content_mentions, refers_to}
use Rattle.ps_cells.specs.Inside.Waiting.{is_formula}
use Rattle.ps_cells.specs.Inside.Walk.{formula_at, IsStateChange, IsRegionOf}
use Rattle.ps_cells.proofs.SettledValues.{true_not_false, refers_formula}

-- a cell without a formula refers to none
refers_none : (s : State) (c d : ℕ) → formula_at s c ≡ false → refers_to s c d ≡ false
refers_none s c d off =
    ⊎_elim
    (λ on. absurd (true_not_false (formula_at s c) (refers_formula (content_of (s c)) d on) off))
    (λ none. none)
    (bool_cases (refers_to s c d))

module _ (s t : State) (v : Assignment) (x : ℕ) (change : IsStateChange s t v (x ∷ [])) (was : formula_at s x ≡ false)
    (now : formula_at t x ≡ false) where
  elsewhere : (c : ℕ) → c ≢ x → s c ≡ t c
  elsewhere c ne = change.same c (λ i. ne (In-one c x i))

  same_formulas : formula_at s ≡ formula_at t
  same_formulas =
      fun_ext (λ c. ⊎_elim
      (λ (same : c ≡ x). subst (λ q. formula_at s q ≡ formula_at t q) (sym same) (was ∙ sym now))
      (λ ne. ap (λ (k : CellState). is_formula (content_of k)) (elsewhere c ne))
      (cases_eq c x))

  same_references : refers_to s ≡ refers_to t
  same_references =
      fun_ext (λ c. fun_ext (λ d. ⊎_elim
      (λ (same : c ≡ x). subst (λ q. refers_to s q d ≡ refers_to t q d) (sym same)
      (refers_none s x d was ∙ sym (refers_none t x d now)))
      (λ ne. ap (λ (k : CellState). content_mentions (content_of k) d) (elsewhere c ne))
      (cases_eq c x)))

  pub found_still : (f : Found) → IsFound (refers_to s) (formula_at s) (x ∷ []) f
      → IsFound (refers_to t) (formula_at t) (x ∷ []) f
  found_still f found =
      subst (λ (formula : ℕ → Bool). IsFound (refers_to t) formula (x ∷ []) f) same_formulas
      (subst (λ (refers : References). IsFound refers (formula_at s) (x ∷ []) f) same_references found)

-- the region of a change of x alone is also the region of the next change of x alone, if x had no formula and has none
pub region_stays : (s t : State) (v : Assignment) (touched : List ℕ) (source : Option ℕ) (f : Found) (x : ℕ)
    → IsStateChange s t v touched → IsRegionOf s source f → source ≡ Some x → touched ≡ x ∷ [] → has_left f x ≡ false
    → formula_at t x ≡ false → IsFound (refers_to t) (formula_at t) (x ∷ []) f
region_stays s t v touched source f x change region is alone left now =
    let found : IsFound (refers_to s) (formula_at s) (x ∷ []) f =
    subst (λ (o : Option ℕ). IsRegionOf s o f) is region in
    found_still s t v x (subst (λ (xs : List ℕ). IsStateChange s t v xs) alone change)
    (sym (found.left_formula x (InRegion-touched (refers_to s) (x ∷ []) x (In-self x []))) ∙ left) now f found

-- a region that was found is the one touched cell's
pub region_found : (t : State) (touched : List ℕ) (source : Option ℕ) (f : Found)
    → IfSome source (λ c. touched ≡ c ∷ []) → IsFound (refers_to t) (formula_at t) touched f → IsRegionOf t source f
region_found t touched None f sole found = tt
region_found t touched (Some x) f sole found =
    subst (λ (xs : List ℕ). IsFound (refers_to t) (formula_at t) xs f) sole found
