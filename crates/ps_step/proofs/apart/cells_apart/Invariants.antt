use Rattle.std.proofs.Common.{◌≡◌, ◌<◌, ◌≤◌, ℕ}
use Rattle.ps_grid.specs.declared.size.TheConstants.{CELLS}
use Rattle.ps_delta.specs.State.{state_at}
use Rattle.ps_step.specs.Inside.{AreApart}
use Rattle.ps_step.proofs.apart.cells_apart.Given as goal

abbrev pub invariant-loop-index : goal.invariant-loop-index
invariant-loop-index l = record {
  apart : AreApart (state_at l.one) (state_at l.other) l.index l.cells.items;
  outside : 0 < l.index → (c : ℕ) → CELLS ≤ c → state_at l.one c ≡ state_at l.other c;
}
