use Rattle.std.proofs.Common.{◌≡◌, take}
use Rattle.ps_shown.specs.Shown.{shown_at}
use Rattle.ps_cells.specs.Inside.Screens.{before_of}
use Rattle.ps_cells.specs.Inside.Steps.{ClosesAll}
use Rattle.ps_cells.proofs.walk.close_all.Given as goal

-- the cells so far show #CYCLE!
abbrev pub invariant-loop-cell : goal.invariant-loop-cell
invariant-loop-cell l = record {
  closed : ClosesAll (take l.cell-index l.cells) (shown_at l.initial.shown.kept) (shown_at l.shown.kept);
  before : before_of l.shown ≡ before_of l.initial.shown;
}
