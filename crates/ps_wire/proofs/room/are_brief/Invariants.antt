use Rattle.std.proofs.Common.{◌<◌, take, All}
use Rattle.ps_wire.specs.Length.{size}
use Rattle.ps_wire.specs.Value.{cell_value}
use Rattle.ps_wire.specs.declared.room.TheConstants.{BRIEF_CELL}
use Rattle.ps_wire.proofs.room.are_brief.Given as goal

abbrev pub invariant-loop-cell : goal.invariant-loop-cell
invariant-loop-cell l = All (λ e. size (cell_value e) < BRIEF_CELL) (take l.cell-index l.cells)
