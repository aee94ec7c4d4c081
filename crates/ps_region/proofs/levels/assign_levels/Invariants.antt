use Rattle.std.proofs.Common.{◌≡◌, ◌≤◌, ◌<◌, ◌-◌, length, get_or, vec_capacity}
use Rattle.ps_grid.specs.declared.size.TheConstants.{CELLS}
use Rattle.ps_region.specs.CellSets.{has_cell}
use Rattle.ps_region.specs.Inside.LevelWalk.{Levelling, Levels, is_frame, is_pending}
use Rattle.ps_region.proofs.levels.assign_levels.Given as goal

abbrev pub invariant-levels : goal.invariant-levels
invariant-levels g l = record {
  state : Levelling (g.A.After.refers l.change.after.now)
      (is_pending (g.A.After.formula l.change.after.now) (has_cell l.change.outside.now) l.marks)
      (is_frame (g.A.After.formula l.change.after.now) l.marks)
      CELLS l.head l.head l.«end» l.k l.left l.level l.order.items;
  levels : Levels l.starts.items l.order.items l.level;
  last : l.«end» ≡ length l.order.items;
  count : length l.starts.items ≡ l.k;
  some : 0 < l.k;
  begin : get_or l.starts.items (l.k - 1) 0 ≡ l.head;
  room : CELLS ≤ vec_capacity l.order;
  room_starts : CELLS < vec_capacity l.starts;
}

abbrev pub decreases-levels : goal.decreases-levels
decreases-levels g l = CELLS - l.head

abbrev pub invariant-walk : goal.invariant-walk
invariant-walk g l = record {
  state : Levelling (g.A.After.refers l.change.after.now)
      (is_pending (g.A.After.formula l.change.after.now) (has_cell l.change.outside.now) l.marks)
      (is_frame (g.A.After.formula l.change.after.now) l.marks)
      CELLS l.initial.head l.head l.«end» l.k l.left l.level l.order.items;
  levels : Levels l.starts.items l.order.items l.level;
  room : CELLS ≤ vec_capacity l.order;
}

abbrev pub decreases-walk : goal.decreases-walk
decreases-walk g l = l.«end» - l.head
