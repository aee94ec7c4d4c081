use Rattle.std.proofs.Common.{◌≤◌, ◌*◌}
use Rattle.ps_grid.specs.declared.size.TheConstants.{ROWS}
use Rattle.ps_eval.specs.Summarized.{Summarizes}
use Rattle.ps_shown.specs.Shown.{shown_at}
use Rattle.ps_shown.specs.Sums.{items_by_columns}
use Rattle.ps_shown.proofs.shown.Shown.columns.Given as goal

-- the summary has the items of the columns so far
abbrev pub invariant-loop-across : goal.invariant-loop-across
invariant-loop-across l =
    Summarizes (items_by_columns (shown_at l.self) l.rect l.across) l.summary × (l.summary.count ≤ l.across * ROWS)
