use Rattle.std.proofs.Common.{◌≡◌, length}
use Rattle.ps_grid.specs.declared.size.TheConstants.{CELLS}
use Rattle.ps_wire.specs.Inside.{AreListed, Spends}
use Rattle.ps_wire.proofs.sharing.spend.Given as goal

abbrev pub invariant-loop-entry : goal.invariant-loop-entry
invariant-loop-entry l = record {
  whole : length l.floors ≡ CELLS;
  spends : Spends (λ listed. AreListed listed l.cells) l.initial.floors l.room l.floors l.left;
}
