use Rattle.std.proofs.Common.{◌≤◌, length, take}
use Rattle.ps_index.specs.Stands.{Puts, Stands}
use Rattle.ps_cells.specs.Inside.Formulas.{with_puts}
use Rattle.ps_cells.proofs.change.take_formulas.Given as goal

-- the formulas of the first `left` cells are in still
abbrev pub invariant-loop-left : goal.invariant-loop-left
invariant-loop-left l = record {
  within : l.left ≤ length l.cells;
  taken : (forms : Puts) → Stands l.initial.index (with_puts l.cells forms)
      → Stands l.index (with_puts (take l.left l.cells) forms);
}

abbrev pub decreases-loop-left : goal.decreases-loop-left
decreases-loop-left l = l.left
