use Rattle.std.proofs.Common.{◌≡◌, ◌+◌}
use Rattle.ps_delta.specs.State.{state_at}
use Rattle.ps_region.specs.Found.{level_cells, level_count}
use Rattle.ps_region.specs.Listed.{listed}
use Rattle.ps_shown.specs.Shown.{shown_at}
use Rattle.ps_cells.specs.Inside.Steps.{flag_at, HasRoom, StepsLevels}
use Rattle.ps_grid.specs.declared.size.TheConstants.{CELLS}
use Rattle.ps_cells.specs.Inside.Screens.{before_of}
use Rattle.ps_cells.proofs.walk.settle_frame.Given as goal

-- the levels so far are done
abbrev pub invariant-loop-before : goal.invariant-loop-before
invariant-loop-before g l = record {
  steps : StepsLevels (state_at l.inputs.grid.now) (listed l.inputs.index.now) (level_cells l.region)
      (level_count l.region) (l.before + 1) (shown_at l.initial.shown.kept)
      (shown_at l.shown.kept) (flag_at l.initial.flags) (flag_at l.flags) l.evaluated;
  before : before_of l.shown ≡ before_of l.initial.shown;
  metered : l.meter ≡ l.initial.meter + l.evaluated;
  room : HasRoom CELLS l.level;
}
