-- What cells are worth before and after a change: outside the region, and where a cell of the frame is no work.
use Rattle.std.proofs.Common.{◌≡◌, ℕ, Bool, true, false, ◌⊎◌, inl, inr, List, sym, ◌∙◌, ⊎_elim}
use Rattle.std.specs.Prelude.{nat_eq}
use Rattle.std.specs.List.{list_any}
use Rattle.ps_grid.specs.Chains.{References, In, IsCyclic, InRegion}
use Rattle.ps_grid.specs.declared.size.TheConstants.{CELLS}
use Rattle.ps_grid.proofs.ChainLemmas.{bool_cases}
use Rattle.ps_grid.proofs.CycleLemmas.{IsCyclic-step, IsCyclic-next, acyclic_induction}
use Rattle.ps_grid.proofs.DecisionLemmas.{IsCyclic-decided}
use Rattle.ps_grid.proofs.RegionLemmas.{InRegion-step, InRegion-touched, same_cyclic}
use Rattle.ps_region.specs.Found.{IsFrame}
use Rattle.ps_region.specs.Values.{Evaluation, IsChange, IsWork}

not_in : (cells : List ℕ) (c : ℕ) → (In cells c → ⊥) → list_any (nat_eq c) cells ≡ false
not_in cells c out = ⊎_elim (λ h. absurd (out h)) (λ h. h) (bool_cases (list_any (nat_eq c) cells))

module _ (V : Type 0) (old new : References) (touched : List ℕ) (before after : Evaluation V) (fault : V)
    (v w : ℕ → V) (change : IsChange V old new touched before after fault v w) where
  -- a cell that is not cyclic after the change is not worth the fault of a cycle
  no_fault : (c : ℕ) → (IsCyclic new c → ⊥) → w c ≡ fault → ⊥
  no_fault =
      acyclic_induction new CELLS change.new_in_grid (λ c. w c ≡ fault → ⊥)
      (λ c acyclic above worth.
      let d = change.cycle_comes c (sym (change.settled_after.at_other c acyclic) ∙ worth) in above d.0 d.1 d.2)

  -- a cell that is not touched and refers to cells that keep their values keeps its own
  pub quiet_keeps : (c : ℕ) → (IsCyclic new c → ⊥) → list_any (nat_eq c) touched ≡ false
      → ((d : ℕ) → new c d ≡ true → v d ≡ w d) → v c ≡ w c
  quiet_keeps c acyclic fresh kept =
      ⊎_elim
      (λ cyc.
      let d = IsCyclic-next old c cyc in
      let r : new c d.0 ≡ true = sym (change.differs c d.0 fresh) ∙ d.1 in
      absurd (no_fault d.0 (λ x. acyclic (IsCyclic-step new c d.0 r x))
      (sym (kept d.0 r) ∙ change.settled_before.at_cycle d.0 d.2)))
      (λ no. change.settled_before.at_other c no
      ∙ (change.stays c fresh v w kept ∙ sym (change.settled_after.at_other c acyclic)))
      (IsCyclic-decided old CELLS change.old_in_grid c)

  -- a cell that is not cyclic and outside the region keeps its value
  acyclic_keeps : (c : ℕ) → (IsCyclic new c → ⊥) → (InRegion new touched c → ⊥) → v c ≡ w c
  acyclic_keeps =
      acyclic_induction new CELLS change.new_in_grid (λ c. (InRegion new touched c → ⊥) → v c ≡ w c)
      (λ c acyclic above out.
      quiet_keeps c acyclic (not_in touched c (λ h. out (InRegion-touched new touched c h)))
      (λ d r. above d r (λ h. out (InRegion-step new touched c d r h))))

  pub outside_keeps : (c : ℕ) → (InRegion new touched c → ⊥) → w c ≡ v c
  outside_keeps c out =
      ⊎_elim
      (λ cyc.
      change.settled_after.at_cycle c cyc
      ∙ sym (change.settled_before.at_cycle c ((same_cyclic old new touched change.differs c out).1 cyc)))
      (λ no. sym (acyclic_keeps c no out))
      (IsCyclic-decided new CELLS change.new_in_grid c)

  pub frame_keeps : ((x y : V) → (x ≡ y) ⊎ (x ≡ y → ⊥)) → (formula : ℕ → Bool) (c : ℕ)
      → IsFrame new formula touched c → (IsWork new formula touched V v w c → ⊥) → w c ≡ v c
  frame_keeps decided formula c frame idle =
      sym (quiet_keeps c frame.2 (not_in touched c (λ h. idle (frame, inl h)))
      (λ d r. sym (⊎_elim (λ e. e) (λ other. absurd (idle (frame, inr (d, r, other)))) (decided (w d) (v d)))))
