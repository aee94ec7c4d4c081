use Rattle.std.proofs.Common.{◌≡◌, length}
use Rattle.std.specs.List.{flat_map}
use Rattle.ps_formula.specs.References.{rects_at}
use Rattle.ps_formula.proofs.kept.first_rect.Given as goal

-- what was passed over has no rectangle
abbrev pub invariant-tokens : goal.invariant-tokens
invariant-tokens l = flat_map rects_at l.left ≡ flat_map rects_at l.initial.left

abbrev pub decreases-tokens : goal.decreases-tokens
decreases-tokens l = length l.left
