use Rattle.std.proofs.Common.{◌≡◌, ◌-◌, ◌≤◌, length, take}
use Rattle.std.specs.List.{All}
use Rattle.ps_grid.specs.declared.size.TheConstants.{CELLS}
use Rattle.ps_wire.specs.Inside.{AreListed, Spends}
use Rattle.ps_wire.specs.declared.TheConstants.{DELTA_LINE_LIMIT}
use Rattle.ps_wire.proofs.sharing.room_for.Given as goal

abbrev pub invariant-deltas : goal.invariant-deltas
invariant-deltas l = record {
  whole : length l.floors ≡ CELLS;
  few : l.count ≤ length l.deltas;
  spends : Spends (λ listed. All (AreListed listed) (take l.count l.deltas)) l.initial.floors
      (DELTA_LINE_LIMIT - 1) l.floors l.left;
}

abbrev pub decreases-deltas : goal.decreases-deltas
decreases-deltas l = length l.deltas - l.count
