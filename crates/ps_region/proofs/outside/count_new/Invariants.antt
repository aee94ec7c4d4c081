use Rattle.std.proofs.Common.{◌≡◌, ℕ, ◌&&◌}
use Rattle.ps_grid.specs.declared.size.TheConstants.{CELLS}
use Rattle.ps_region.specs.Inside.Counts.{count_below}
use Rattle.ps_region.specs.Inside.Outside.{in_columns, is_new}
use Rattle.ps_region.proofs.outside.count_new.Given as goal

-- the columns so far are counted
abbrev pub invariant-loop-across : goal.invariant-loop-across
invariant-loop-across l =
    l.count ≡ count_below (λ d. in_columns l.rect l.across d && is_new l.set l.marks l.before d) CELLS
