use Rattle.std.proofs.Common.{◌≡◌, ◌≤◌, ℕ, get_or, length, map, take}
use Rattle.ps_delta.specs.State.{state_at}
use Rattle.ps_region.specs.Listed.{listed}
use Rattle.ps_shown.specs.declared.kept.Kept.{Kept}
use Rattle.ps_shown.specs.Shown.{shown_at}
use Rattle.ps_cells.specs.Inside.Steps.{BeginsAll, flag_at}
use Rattle.ps_cells.specs.Inside.Screens.{before_of}
use Rattle.ps_cells.proofs.walk.show_all_first.Given as goal

-- the cells so far are dealt with, and the others are as they were
abbrev pub invariant-loop-i : goal.invariant-loop-i
invariant-loop-i l = record {
  begun : BeginsAll (state_at l.grid) (listed l.index) (map (λ e. e.0) (take l.i l.initial.first))
      (shown_at l.initial.shown.kept) (shown_at l.shown.kept) (flag_at l.initial.flags) (flag_at l.flags);
  before : before_of l.shown ≡ before_of l.initial.shown;
  others : (j : ℕ) (d : ℕ × Kept) → l.i ≤ j → get_or l.first j d ≡ get_or l.initial.first j d;
  places : length l.first ≡ length l.initial.first;
}
