use Rattle.std.proofs.Common.{◌≤◌, take, length}
use Rattle.std.specs.Prelude.{vec_capacity}
use Rattle.ps_shown.specs.Shown.{shown_at}
use Rattle.ps_cells.specs.Inside.Screens.{Differ, put_back}
use Rattle.ps_cells.proofs.screen.list_differing.Given as goal

-- the cells of the old values so far that show another one are listed
abbrev pub invariant-loop-entry : goal.invariant-loop-entry
invariant-loop-entry l = record {
  differ : Differ (shown_at l.shown) (put_back (take l.entry-index l.olds) (shown_at l.shown)) l.cells.items;
  few : length l.cells.items ≤ l.entry-index;
  room : vec_capacity l.initial.cells ≤ vec_capacity l.cells;
}
