use Rattle.std.proofs.Common.{◌≡◌, ◌≤◌, take, filter, length}
use Rattle.std.specs.Prelude.{vec_capacity}
use Rattle.ps_cells.specs.Inside.Steps.{flag_at}
use Rattle.ps_cells.proofs.level.list_due.Given as goal

-- the flagged ones of the cells so far are listed
abbrev pub invariant-loop-cell : goal.invariant-loop-cell
invariant-loop-cell l =
    (l.due.items ≡ filter (flag_at l.flags) (take l.cell-index l.cells))
    × (length l.due.items ≤ l.cell-index)
    × (vec_capacity l.initial.due ≤ vec_capacity l.due)
