use Rattle.std.proofs.Common.{◌≡◌, ◌++◌, []}
use Rattle.std.specs.Vec.Iter.{into_iter_items}
use Rattle.ps_sheet.specs.Arrivals.{Follow}
use Rattle.ps_csv.specs.Inside.{cells_of_each}
use Rattle.ps_csv.proofs.ApplyLemmas.{IsApplying}
use Rattle.ps_csv.proofs.apply.make_all.Given as goal

abbrev pub invariant-loop-cells : goal.invariant-loop-cells
invariant-loop-cells l =
    goal.iterator-loop-cells.can_next l.cells-iterator
    × goal.iterator-loop-cells.is_finite l.cells-iterator
    × IsApplying l.fn.sheet.replica l.fn.sheet.history (cells_of_each l.fn.batches.items) l.applied
    (cells_of_each (into_iter_items l.cells-iterator)) (l.fn.sheet.history ++ l.arrivals.deltas)
    × Follow l.fn.sheet.history l.arrivals
    × (l.applied ≡ 0 → l.arrivals.deltas ≡ [])
