use Rattle.std.proofs.Common.{◌≡◌, take}
use Rattle.ps_cells.specs.Inside.Formulas.{firsts, shown_firsts}
use Rattle.ps_cells.proofs.change.list_first.Given as goal

abbrev pub invariant-loop-cell : goal.invariant-loop-cell
invariant-loop-cell l = shown_firsts l.first.items ≡ firsts (take l.cell-index l.cells)
