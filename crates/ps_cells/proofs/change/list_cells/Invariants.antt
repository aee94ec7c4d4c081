use Rattle.std.proofs.Common.{◌≡◌, take}
use Rattle.ps_delta.specs.Deltas.{cells_of}
use Rattle.ps_cells.proofs.change.list_cells.Given as goal

abbrev pub invariant-loop-cell : goal.invariant-loop-cell
invariant-loop-cell l = l.alone.items ≡ cells_of (take l.cell-index l.cells)
