-- The end of a walk: the values are settled, the evaluated cells counted, and no flag is left.
use Rattle.std.proofs.Common.{◌≡◌, ℕ, Bool, true, ◌⊎◌, List, sym, ap, ◌∙◌, ⊎_elim}
use Rattle.ps_grid.specs.Chains.{In, InRegion}
use Rattle.ps_grid.proofs.ChainLemmas.{bool_cases}
use Rattle.ps_grid.proofs.RegionLemmas.{InRegion-touched, InRegion-step}
use Rattle.ps_value.specs.declared.value.Value.TheVariants.{Err}
use Rattle.ps_value.specs.declared.value.Fault.{Fault}
use Rattle.ps_eval.specs.Items.{Assignment}
use Rattle.ps_delta.specs.State.{State}
use Rattle.ps_cells.specs.Settled.{content_of, refers_to, Cyclic, value_of, IsSettled}
use Rattle.ps_cells.specs.Inside.Walk.{formula_at, InFrame, IsDue, IsWork, IsCount, IsStateChange, Walked}
use Rattle.ps_cells.proofs.SettledValues.{value_by-agrees}
use Rattle.ps_cells.proofs.ChangedStates.{plain_real, region_touched, outside_cyclic, same_cyclic, cyclic_decided}
use Rattle.ps_cells.proofs.ListedCells.{count_same}

module _ (s t : State) (v : Assignment) (touched : List ℕ) (change : IsStateChange s t v touched)
    (Done : ℕ → Type 0) (u : Assignment) (flags : ℕ → Bool) (n : ℕ) (w : Walked t v touched Done u flags n) where
  -- where a list has the cells of the region, a flag is set at none but its cells
  pub flag_listed : (members : List ℕ) → ((c : ℕ) → InRegion (refers_to t) touched c → In members c)
      → (c : ℕ) → flags c ≡ true → In members c
  flag_listed members complete c on = complete c (w.inside c on)

  module _ (all : (c : ℕ) → InFrame t touched c → Done c) where
    -- END: just the cells of the frame that are due were evaluated
    pub end_counted : IsCount (IsWork t touched v u) n
    end_counted = count_same (λ c. Done c × IsDue t touched v u c) (IsWork t touched v u) n w.counted
        (λ c p. (w.framed c p.0, p.1)) (λ c p. (all c p.0, p.1))

    module _ (decided : (c : ℕ) → InRegion (refers_to t) touched c ⊎ ¬ InRegion (refers_to t) touched c) where
      is_cyclic : (c : ℕ) → u c ≡ Err Fault.Cycle → Cyclic t c
      is_cyclic c is =
          ⊎_elim
          (λ i. ⊎_elim
          (λ f. ⊎_elim
          (λ cyc. cyc)
          (λ acyclic. absurd (w.real c (all c (i, f, acyclic)) is))
          (cyclic_decided s t v touched change c))
          (λ p. absurd
          (plain_real (content_of (t c)) (t c) u p (sym (w.plain c (region_touched t touched c i p) p) ∙ is)))
          (bool_cases (formula_at t c)))
          (λ out. outside_cyclic s t v touched change c out (sym (w.outside c out) ∙ is))
          (decided c)

      shows_cycle : (c : ℕ) → Cyclic t c → u c ≡ Err Fault.Cycle
      shows_cycle c cyc =
          ⊎_elim
          (λ i. w.cyclic c i cyc)
          (λ out. w.outside c out ∙ (change.settled.cycle c).1 ((same_cyclic s t v touched change c out).1 cyc))
          (decided c)

      -- outside the region a cell has its value still: it refers to cells outside alone
      outside_value : (c : ℕ) → ¬ InRegion (refers_to t) touched c → ¬ Cyclic t c → u c ≡ value_of (t c) u
      outside_value c out acyclic =
          w.outside c out
          ∙ (change.settled.value c (λ cyc. acyclic ((same_cyclic s t v touched change c out).0 cyc))
          ∙ (ap (λ k. value_of k v) (change.same c (λ i. out (InRegion-touched (refers_to t) touched c i)))
          ∙ value_by-agrees (content_of (t c)) (t c) v u
          (λ d r. sym (w.outside d (λ i. out (InRegion-step (refers_to t) touched c d r i))))))

      shows_value : (c : ℕ) → ¬ Cyclic t c → u c ≡ value_of (t c) u
      shows_value c acyclic =
          ⊎_elim
          (λ i. ⊎_elim
          (λ f. w.done c (all c (i, f, acyclic)))
          (λ p. w.plain c (region_touched t touched c i p) p)
          (bool_cases (formula_at t c)))
          (λ out. outside_value c out acyclic)
          (decided c)

      -- END: the values are settled
      pub end_settled : IsSettled t u
      end_settled = record {
        cycle = λ c. ((λ is. is_cyclic c is), (λ cyc. shows_cycle c cyc));
        value = shows_value;
      }
