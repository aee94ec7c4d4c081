use Rattle.std.proofs.Common.{◌≡◌, false, take}
use Rattle.std.specs.List.{list_any}
use Rattle.ps_grid.specs.Rectangle.{is_inside}
use Rattle.ps_cells.proofs.region.refers.Given as goal

-- the cell is in none of the rectangles so far
abbrev pub invariant-loop-rect : goal.invariant-loop-rect
invariant-loop-rect l = list_any (λ r. is_inside r l.cell) (take l.rect-index l.rect-items) ≡ false
