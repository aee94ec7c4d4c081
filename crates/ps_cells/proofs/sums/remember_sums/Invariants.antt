use Rattle.std.proofs.Common.{◌≡◌}
use Rattle.ps_cells.proofs.sums.remember_sums.Given as goal

-- what a contract sees stays
abbrev pub invariant-loop-cell : goal.invariant-loop-cell
invariant-loop-cell l = l.shown ≡ l.initial.shown
