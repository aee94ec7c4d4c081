use Rattle.std.proofs.Common.{◌≡◌, ℕ, ◌&&◌, take}
use Rattle.ps_grid.specs.declared.size.TheConstants.{CELLS}
use Rattle.ps_region.specs.Inside.Counts.{count_below}
use Rattle.ps_region.specs.Inside.Outside.{is_covered, is_outside}
use Rattle.ps_region.proofs.outside.count_covered.Given as goal

-- the rectangles so far are counted
abbrev pub invariant-loop-i : goal.invariant-loop-i
invariant-loop-i l =
    l.count ≡ count_below (λ d. is_covered (take l.i l.rects) d && is_outside l.set l.marks d) CELLS
