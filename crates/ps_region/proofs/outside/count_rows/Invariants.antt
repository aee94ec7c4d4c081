use Rattle.std.proofs.Common.{◌≡◌, ℕ, ◌-◌, ◌&&◌}
use Rattle.ps_grid.specs.declared.size.TheConstants.{CELLS}
use Rattle.ps_region.specs.Inside.Counts.{count_below}
use Rattle.ps_region.specs.Inside.Outside.{in_rows, is_new}
use Rattle.ps_region.proofs.outside.count_rows.Given as goal

-- the rows so far are counted
abbrev pub invariant-loop-down : goal.invariant-loop-down
invariant-loop-down l =
    l.count ≡ count_below (λ d. in_rows l.rect l.across l.down d && is_new l.set l.marks l.before d) CELLS

abbrev pub decreases-loop-down : goal.decreases-loop-down
decreases-loop-down l = l.height - l.down
