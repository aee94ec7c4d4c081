use Rattle.std.proofs.Common.{◌≡◌, length, take}
use Rattle.ps_grid.specs.declared.size.TheConstants.{CELLS}
use Rattle.ps_desk.proofs.pass.copy_all.Given as goal

abbrev pub invariant-loop-index : goal.invariant-loop-index
invariant-loop-index g l = (length l.values ≡ CELLS) × (take l.index l.values ≡ take l.index l.seen.values)
