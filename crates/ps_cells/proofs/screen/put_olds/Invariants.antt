use Rattle.std.proofs.Common.{◌≡◌, ◌≤◌, ℕ, true, length}
use Rattle.std.specs.Prelude.{vec_capacity}
use Rattle.ps_grid.specs.Chains.{In}
use Rattle.ps_grid.specs.declared.size.TheConstants.{CELLS}
use Rattle.ps_shown.specs.Shown.{shown_at}
use Rattle.ps_cells.specs.Inside.Steps.{flag_at}
use Rattle.ps_cells.specs.Inside.Screens.{cells_in, put_back}
use Rattle.ps_cells.proofs.screen.put_olds.Given as goal

-- with the old values that are still to be put back, the shown values become what they would have become at first; only
-- the cells of these old values are flagged
abbrev pub invariant-olds : goal.invariant-olds
invariant-olds l = record {
  back : put_back l.olds.items (shown_at l.shown) ≡ put_back l.initial.olds.items (shown_at l.initial.shown);
  noted : (c : ℕ) → flag_at l.is_put c ≡ true → In (cells_in l.olds.items) c;
  whole : length l.is_put ≡ CELLS;
  room : vec_capacity l.initial.olds ≤ vec_capacity l.olds;
}

abbrev pub decreases-olds : goal.decreases-olds
decreases-olds l = length l.olds.items
