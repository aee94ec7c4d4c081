use Rattle.std.proofs.Common.{◌≡◌, Bool, false, ℕ}
use Rattle.ps_grid.specs.declared.size.TheConstants.{CELLS}
use Rattle.ps_region.proofs.TallyLemmas.{tallied_none, all_off}
use Rattle.ps_region.proofs.cell_set.CellSet.new.Goals as goal

pub invariant_of-result : goal.invariant_of-result
invariant_of-result c =
    rw (
      c.in_ok-cells.ensures.items_if_clones_equal (λ (y : Bool) (e : y ≡ false). e),
      c.in_ok-blocks.ensures.items_if_clones_equal (λ (y : ℕ) (e : y ≡ 0). e),
    ) tallied_none

pub returns-clause-empty : goal.returns-clause-empty
returns-clause-empty c =
    rw (c.in_ok-cells.ensures.items_if_clones_equal (λ (y : Bool) (e : y ≡ false). e)) (all_off CELLS)
