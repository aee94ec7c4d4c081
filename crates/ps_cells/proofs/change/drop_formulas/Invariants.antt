use Rattle.std.proofs.Common.{length}
use Rattle.ps_index.specs.Stands.{Puts, Stands}
use Rattle.ps_cells.specs.Inside.Formulas.{with_puts}
use Rattle.ps_cells.proofs.change.drop_formulas.Given as goal

-- the formulas of the cells that are left are in still
abbrev pub invariant-cells : goal.invariant-cells
invariant-cells l = (forms : Puts) → Stands l.initial.index (with_puts l.initial.cells.items forms)
    → Stands l.index (with_puts l.cells.items forms)

abbrev pub decreases-cells : goal.decreases-cells
decreases-cells l = length l.cells.items
