use Rattle.std.proofs.Common.{◌≤◌, ◌-◌, length}
use Rattle.std.specs.Prelude.{vec_capacity}
use Rattle.ps_cells.proofs.level.make_places.Given as goal

-- the room stays
abbrev pub invariant-places : goal.invariant-places
invariant-places l = vec_capacity l.initial.values ≤ vec_capacity l.values

abbrev pub decreases-places : goal.decreases-places
decreases-places l = l.count - length l.values.items
