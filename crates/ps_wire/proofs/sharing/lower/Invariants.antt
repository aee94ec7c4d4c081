use Rattle.std.proofs.Common.{◌≡◌, ◌≤◌, ℕ, length, take}
use Rattle.ps_grid.specs.declared.size.TheConstants.{CELLS}
use Rattle.ps_wire.specs.Inside.{AreAbove, floor_at}
use Rattle.ps_wire.proofs.sharing.lower.Given as goal

-- the floors are lower, and hold for the cells so far
abbrev pub invariant-loop-entry : goal.invariant-loop-entry
invariant-loop-entry l = record {
  whole : length l.floors ≡ CELLS;
  above : AreAbove l.floors (take l.entry-index l.cells);
  lower : (c : ℕ) → floor_at l.floors c ≤ floor_at l.initial.floors c;
}
