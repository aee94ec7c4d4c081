use Rattle.std.proofs.Common.{◌≡◌, length, take}
use Rattle.ps_grid.specs.declared.size.TheConstants.{CELLS}
use Rattle.ps_wire.specs.Inside.{AreFloors}
use Rattle.ps_wire.proofs.sharing.floors_of.Given as goal

abbrev pub invariant-loop-delta : goal.invariant-loop-delta
invariant-loop-delta l = record {
  whole : length l.floors.items ≡ CELLS;
  floors : AreFloors l.floors.items (take l.delta-index l.deltas);
}
