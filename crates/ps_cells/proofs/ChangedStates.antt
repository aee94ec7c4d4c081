-- A change of the state: the region and the cyclic cells before and after it, and what cells without formulas show.
use Rattle.std.proofs.Common.{◌≡◌, ℕ, true, false, ◌⊎◌, List, [], ◌∷◌, ap, eqb}
use Rattle.std.specs.List.{list_any}
use Rattle.ps_grid.specs.declared.size.TheConstants.{CELLS}
use Rattle.ps_grid.specs.Chains.{In, IsChain, last_of, InRegion}
use Rattle.ps_grid.proofs.CycleLemmas.{IsCyclic-next}
use Rattle.ps_grid.proofs.DecisionLemmas.{IsCyclic-decided}
use Rattle.ps_grid.proofs.RegionLemmas.{same_region as chains_same_region, same_cyclic as chains_same_cyclic}
use Rattle.ps_value.specs.declared.value.Value.TheVariants.{Err}
use Rattle.ps_value.specs.declared.value.Fault.{Fault}
use Rattle.ps_eval.specs.Items.{Assignment}
use Rattle.ps_delta.specs.State.{State}
use Rattle.ps_delta.specs.declared.cell_state.CellState.{CellState}
use Rattle.ps_content.specs.declared.content.Content.{Content}
use Rattle.ps_cells.specs.Settled.{content_of, content_mentions, refers_to, Cyclic, value_by}
use Rattle.ps_cells.specs.Inside.Waiting.{is_formula, is_waiting}
use Rattle.ps_cells.specs.Inside.Walk.{formula_at, IsStateChange}
use Rattle.ps_cells.proofs.SettledValues.{true_not_false, waiting_is, value_by-agrees, value_by-waits}
use Rattle.ps_cells.proofs.SettledValues.{refers_formula, refers_below}

-- a value is #CYCLE! only where a cell that the content refers to shows that
pub value_cycle : (k : Content) (x : CellState) (v : Assignment) → value_by k x v ≡ Err Fault.Cycle
    → (d : ℕ) × (content_mentions k d ≡ true) × (v d ≡ Err Fault.Cycle)
value_cycle k x v h = let m = value_by-waits k x v (ap is_waiting h) in (m.0, m.1, waiting_is (v m.0) m.2)

-- the value of a content without a formula hangs on no cell
pub plain_agrees : (k : Content) (x : CellState) (v w : Assignment) → is_formula k ≡ false
    → value_by k x v ≡ value_by k x w
plain_agrees k x v w h =
    value_by-agrees k x v w (λ d m. absurd (true_not_false (is_formula k) (refers_formula k d m) h))

-- and is never #CYCLE!
pub plain_real : (k : Content) (x : CellState) (v : Assignment) → is_formula k ≡ false
    → ¬ (value_by k x v ≡ Err Fault.Cycle)
plain_real k x v h is =
    let m = value_cycle k x v is in true_not_false (is_formula k) (refers_formula k m.0 m.1) h

-- a cyclic cell has a formula
pub cyclic_formula : (t : State) (c : ℕ) → Cyclic t c → formula_at t c ≡ true
cyclic_formula t c cyc =
    let n = IsCyclic-next (refers_to t) c cyc in refers_formula (content_of (t c)) n.0 n.1

touched_along : (t : State) (touched : List ℕ) (c : ℕ) (rest : List ℕ) → IsChain (refers_to t) c rest
    → In touched (last_of c rest) → formula_at t c ≡ false → In touched c
touched_along t touched c [] chain last plain = last
touched_along t touched c (d ∷ rest) chain last plain =
    absurd (true_not_false (formula_at t c) (refers_formula (content_of (t c)) d chain.0) plain)

-- a cell of the region without a formula is touched
pub region_touched : (t : State) (touched : List ℕ) (c : ℕ) → InRegion (refers_to t) touched c
    → formula_at t c ≡ false → In touched c
region_touched t touched c h plain = touched_along t touched c h.0 h.1 h.2 plain

module _ (s t : State) (v : Assignment) (touched : List ℕ) (change : IsStateChange s t v touched) where
  pub same_references : (c d : ℕ) → list_any (eqb c) touched ≡ false → refers_to s c d ≡ refers_to t c d
  same_references c d out =
      ap (λ x. content_mentions (content_of x) d)
      (change.same c (λ i. true_not_false (list_any (eqb c) touched) i out))

  -- the region of the change, by references before and after it
  pub same_region : (c : ℕ) → (InRegion (refers_to s) touched c → InRegion (refers_to t) touched c)
      × (InRegion (refers_to t) touched c → InRegion (refers_to s) touched c)
  same_region c = chains_same_region (refers_to s) (refers_to t) touched same_references c

  -- outside the region a cell is cyclic after the change just where it was before
  pub same_cyclic : (c : ℕ) → ¬ InRegion (refers_to t) touched c
      → (Cyclic s c → Cyclic t c) × (Cyclic t c → Cyclic s c)
  same_cyclic c out = chains_same_cyclic (refers_to s) (refers_to t) touched same_references c out

  -- a cell is cyclic after the change, or is not
  pub cyclic_decided : (c : ℕ) → Cyclic t c ⊎ ¬ Cyclic t c
  cyclic_decided c = IsCyclic-decided (refers_to t) CELLS (refers_below t change.after) c

  -- a list of the cells that were cyclic has just those outside the region that are
  pub outside_listed : (kept : List ℕ) → ((c : ℕ) → (In kept c → Cyclic s c) × (Cyclic s c → In kept c))
      → (c : ℕ) → ¬ InRegion (refers_to t) touched c → (In kept c → Cyclic t c) × (Cyclic t c → In kept c)
  outside_listed kept lists c out =
      ((λ i. (same_cyclic c out).0 ((lists c).0 i)), (λ cyc. (lists c).1 ((same_cyclic c out).1 cyc)))

  -- outside the region #CYCLE! is shown by cyclic cells alone
  pub outside_cyclic : (c : ℕ) → ¬ InRegion (refers_to t) touched c → v c ≡ Err Fault.Cycle → Cyclic t c
  outside_cyclic c out is = (same_cyclic c out).0 ((change.settled.cycle c).0 is)
