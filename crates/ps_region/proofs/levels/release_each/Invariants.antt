use Rattle.std.proofs.Common.{◌≤◌, length, take, vec_capacity}
use Rattle.ps_grid.specs.declared.size.TheConstants.{CELLS}
use Rattle.ps_region.specs.Inside.Counts.{Released}
use Rattle.ps_region.specs.Listed.{listed}
use Rattle.ps_region.proofs.levels.release_each.Given as goal

abbrev pub invariant-loop-e : goal.invariant-loop-e
invariant-loop-e g l = record {
  can_next : (goal.iterator-loop-e g).can_next l.e-iterator;
  is_finite : (goal.iterator-loop-e g).is_finite l.e-iterator;
  released : Released (g.A.After.refers l.change.after.now) l.d l.k
      (take (length l.yielded) (listed l.change.index.now l.d))
      l.initial.left l.initial.level l.initial.order.items l.left l.level l.order.items;
  room : CELLS ≤ vec_capacity l.order;
}
