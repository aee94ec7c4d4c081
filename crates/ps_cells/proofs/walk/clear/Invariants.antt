use Rattle.std.proofs.Common.{◌≡◌, ℕ, true, drop}
use Rattle.ps_grid.specs.Chains.{In}
use Rattle.ps_cells.specs.Inside.Steps.{flag_at}
use Rattle.ps_cells.proofs.walk.clear.Given as goal

-- cells that are flagged still come later on
abbrev pub invariant-loop-cell : goal.invariant-loop-cell
invariant-loop-cell l = (c : ℕ) → flag_at l.flags c ≡ true → In (drop l.cell-index l.cells) c
