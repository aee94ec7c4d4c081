use Rattle.std.proofs.Common.{◌≡◌, ◌≤◌, ℕ, true, length}
use Rattle.std.specs.Prelude.{vec_capacity}
use Rattle.ps_grid.specs.Chains.{In}
use Rattle.ps_grid.specs.declared.size.TheConstants.{CELLS}
use Rattle.ps_cells.specs.Inside.Steps.{flag_at}
use Rattle.ps_cells.specs.Inside.Screens.{cells_in}
use Rattle.ps_cells.proofs.screen.forget.Given as goal

-- the cells of what is still to be forgotten are flagged at most
abbrev pub invariant-olds : goal.invariant-olds
invariant-olds l = record {
  noted : (c : ℕ) → flag_at l.is_put c ≡ true → In (cells_in l.olds.items) c;
  whole : length l.is_put ≡ CELLS;
  room : vec_capacity l.initial.olds ≤ vec_capacity l.olds;
}

abbrev pub decreases-olds : goal.decreases-olds
decreases-olds l = length l.olds.items
