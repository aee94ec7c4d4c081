use Rattle.std.proofs.Common.{◌≡◌, ◌≤◌, ℕ, false, get_or, length}
use Rattle.ps_region.specs.Listed.{listed}
use Rattle.ps_shown.specs.declared.kept.Kept.{Kept}
use Rattle.ps_shown.specs.Shown.{shown_at}
use Rattle.ps_workers.specs.Level.{kept_values}
use Rattle.ps_cells.specs.Inside.Steps.{flag_at}
use Rattle.ps_cells.specs.Inside.Screens.{before_of}
use Rattle.ps_cells.proofs.LevelSteps.{ShowsPart}
use Rattle.ps_cells.proofs.level.show_all.Given as goal

-- the cells so far show their values, and the places of the others are as they were
abbrev pub invariant-loop-i : goal.invariant-loop-i
invariant-loop-i l = record {
  shows : ShowsPart false (listed l.index) l.cells (kept_values l.initial.values) l.i (shown_at l.initial.shown.kept)
      (shown_at l.shown.kept) (flag_at l.initial.flags) (flag_at l.flags);
  others : (j : ℕ) (d : Kept) → l.i ≤ j → get_or l.values j d ≡ get_or l.initial.values j d;
  before : before_of l.shown ≡ before_of l.initial.shown;
  places : length l.values ≡ length l.initial.values;
}
