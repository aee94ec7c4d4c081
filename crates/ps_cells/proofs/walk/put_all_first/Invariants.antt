use Rattle.std.proofs.Common.{◌≡◌, length}
use Rattle.ps_shown.specs.Shown.{shown_at}
use Rattle.ps_cells.specs.Inside.Screens.{before_of, put_back}
use Rattle.ps_cells.proofs.walk.put_all_first.Given as goal

-- with the values that are still to be put, the shown values become what they would have become at first
abbrev pub invariant-first : goal.invariant-first
invariant-first l = record {
  put : put_back l.first.items (shown_at l.shown.kept)
      ≡ put_back l.initial.first.items (shown_at l.initial.shown.kept);
  before : before_of l.shown ≡ before_of l.initial.shown;
}

abbrev pub decreases-first : goal.decreases-first
decreases-first l = length l.first.items
