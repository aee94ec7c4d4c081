use Rattle.std.proofs.Common.{◌≡◌}
use Rattle.ps_cells.proofs.sums.expect_sums.Given as goal

-- what a contract sees stays
abbrev pub invariant-loop-rect : goal.invariant-loop-rect
invariant-loop-rect l = l.shown ≡ l.initial.shown
