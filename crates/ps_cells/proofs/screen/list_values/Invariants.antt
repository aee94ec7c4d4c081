use Rattle.std.proofs.Common.{◌≡◌, ◌≤◌, take, length, map}
use Rattle.std.specs.Prelude.{vec_capacity}
use Rattle.ps_shown.specs.Shown.{shown_at}
use Rattle.ps_cells.proofs.screen.list_values.Given as goal

-- the cells so far are listed with what they show
abbrev pub invariant-loop-cell : goal.invariant-loop-cell
invariant-loop-cell l = record {
  values : l.changes.items ≡ map (λ c. (c, shown_at l.shown c)) (take l.cell-index l.cells);
  few : length l.changes.items ≤ l.cell-index;
  room : vec_capacity l.initial.changes ≤ vec_capacity l.changes;
}
