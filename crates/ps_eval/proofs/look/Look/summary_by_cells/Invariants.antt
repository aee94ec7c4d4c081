use Rattle.std.proofs.Common.{◌≤◌, length}
use Rattle.ps_eval.specs.Summarized.{Summarizes}
use Rattle.ps_eval.proofs.RangeItems.{items_at}
use Rattle.ps_eval.proofs.look.Look.summary_by_cells.Given as goal

-- the summary has the items of the cells so far
abbrev pub invariant-loop-cell : goal.invariant-loop-cell
invariant-loop-cell g l =
    Summarizes (items_at (g.Self.Look.value_at l.self) l.yielded) l.summary × (l.summary.count ≤ length l.yielded)
