use Rattle.std.proofs.Common.{◌≡◌, ◌≤◌, ◌<◌, get_or, ◌-◌, ℕ, [], take, vec_capacity}
use Rattle.ps_grid.specs.declared.size.TheConstants.{CELLS}
use Rattle.ps_region.specs.Listed.{listed}
use Rattle.ps_region.specs.Inside.Cells.{HasSole, Marked}
use Rattle.ps_region.specs.Inside.Counts.{cells_left, is_walked, counted_in}
use Rattle.ps_region.proofs.GrowthLemmas.{Grown}
use Rattle.ps_region.proofs.grow.grow.Given as goal

abbrev pub invariant-loop-head : goal.invariant-loop-head
invariant-loop-head g l = record {
  marked : Marked l.marks l.members.items;
  room : CELLS ≤ vec_capacity l.members;
  soles : (p : ℕ) → p < l.head
      → HasSole (listed l.change.index.now (get_or l.members.items p 0)) (get_or l.sole (get_or l.members.items p 0) 0);
  grown : Grown (g.A.After.refers l.change.after.now)
      (listed l.change.index.now) l.change.touched.now l.head l.members.items;
  counts : (q : ℕ) → counted_in l.members.items l.left q
      ≡ cells_left (g.A.After.refers l.change.after.now)
      (is_walked (g.A.After.formula l.change.after.now) (take l.head l.members.items))
      [] CELLS q;
}

abbrev pub decreases-loop-head : goal.decreases-loop-head
decreases-loop-head g l = CELLS - l.head
