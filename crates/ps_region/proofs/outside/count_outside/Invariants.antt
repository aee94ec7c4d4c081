use Rattle.std.proofs.Common.{◌≡◌, ℕ, true, false, cond, [], get_or, take, eqb}
use Rattle.std.specs.List.{list_any}
use Rattle.ps_grid.specs.declared.size.TheConstants.{CELLS}
use Rattle.ps_region.specs.CellSets.{has_cell}
use Rattle.ps_region.specs.Inside.Counts.{cells_left, is_in}
use Rattle.ps_region.specs.Inside.LevelWalk.{is_pending}
use Rattle.ps_region.proofs.outside.count_outside.Given as goal

-- the members so far have all counts, and the others those without the cyclic cells outside
abbrev pub invariant-loop-c : goal.invariant-loop-c
invariant-loop-c g l = (q : ℕ) → get_or l.marks q false ≡ true → get_or l.left q 0
    ≡ cond (list_any (eqb q) (take l.c-index l.members))
    (cells_left (g.A.After.refers l.change.after.now)
    (is_pending (g.A.After.formula l.change.after.now) (has_cell l.change.outside.now) l.marks) [] CELLS q)
    (cells_left (g.A.After.refers l.change.after.now)
    (is_pending (g.A.After.formula l.change.after.now) (is_in []) l.marks) [] CELLS q)
