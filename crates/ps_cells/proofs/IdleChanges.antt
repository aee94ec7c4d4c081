-- A change of nothing recalculates nothing.
use Rattle.std.proofs.Common.{◌≡◌, ℕ, true, false, inl, [], refl, subst}
use Rattle.ps_grid.specs.Chains.{References, InRegion}
use Rattle.ps_eval.specs.Items.{Assignment}
use Rattle.ps_delta.specs.State.{State}
use Rattle.ps_cells.specs.Settled.{refers_to, Cyclic}
use Rattle.ps_cells.specs.Recalculated.{IsRecalculated}
use Rattle.ps_cells.specs.Inside.Walk.{formula_at, IsWork}
use Rattle.ps_cells.proofs.ListedCells.{count_none}

-- where no cell is touched the region is empty
no_region : (refers : References) (c : ℕ) → InRegion refers [] c → ⊥
no_region refers c h = let f : false ≡ true = h.2 in cc

pub idle_recalculated : (s : State) (v : Assignment) → IsRecalculated s s v v 0 0 0
idle_recalculated s v = record {
  touched = [];
  exact = λ c. ((λ i. absurd (let f : false ≡ true = i in cc)), (λ differ. absurd (differ refl)));
  works = count_none (IsWork s [] v v) (λ c p. no_region (refers_to s) c p.0.0);
  closes = count_none (λ c. InRegion (refers_to s) [] c × (formula_at s c ≡ true) × Cyclic s c)
      (λ c p. no_region (refers_to s) c p.0);
  deepest = λ c f. absurd (no_region (refers_to s) c f.0);
  reached = inl refl;
}

-- a recalculation under the names that its states and values go by
pub recalculated_as : (s s2 t t2 : State) (v v2 w : Assignment) (a b n : ℕ) → s ≡ s2 → t ≡ t2 → v ≡ v2
    → IsRecalculated s t v w a b n → IsRecalculated s2 t2 v2 w a b n
recalculated_as s s2 t t2 v v2 w a b n is_s is_t is_v r =
    subst (λ (x : State). IsRecalculated x t2 v2 w a b n) is_s
    (subst (λ (x : State). IsRecalculated s x v2 w a b n) is_t
    (subst (λ (x : Assignment). IsRecalculated s t x w a b n) is_v r))
