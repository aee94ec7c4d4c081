use Rattle.std.proofs.Common.{◌≡◌, ◌<◌, ◌≤◌, ◌+◌, ◌-◌, arith, sym, ◌∙◌, false, subst, length}
use Rattle.std.proofs.Common.{ℕ, List, get_or}
use Rattle.std.proofs.lemmas.List.{get_or_read, get_or_push, length_push}
use Rattle.ps_grid.specs.declared.size.TheConstants.{CELLS}
use Rattle.ps_region.specs.Listed.{listed}
use Rattle.ps_region.proofs.CountLemmas.{and_true_left}
use Rattle.ps_region.specs.CellSets.{has_cell}
use Rattle.ps_region.proofs.CellListLemmas.{in-get_or}
use Rattle.ps_region.proofs.LevellingLemmas.{Levelling-lowers, Levelling-step, Levelling-level}
use Rattle.ps_region.proofs.LevellingLemmas.{Levels-keep, Levels-more}
use Rattle.ps_region.proofs.LevellingLemmas.{few_levels, Queued-le, frame_pending, frame_back}
use Rattle.ps_region.specs.Inside.LevelWalk.{Levelling, is_frame, is_pending}
use Rattle.ps_region.proofs.levels.assign_levels.Goals as goal

-- what stands first in a queue
record IsFront (order : List ℕ) (head d : ℕ) : Type 0 where
  there : head < length order
  is : d ≡ get_or order head 0

front_of : (order : List ℕ) (head «end» d : ℕ) → head < «end» → «end» ≤ length order → d ≡ get_or order head d
    → IsFront order head d
front_of order head «end» d before within is =
    let there : head < length order = omega (arith, before, within) in
    record { there = there; is = get_or_read order head d there is 0 }

pub release-requires-clause-sole : goal.release-requires-clause-sole
release-requires-clause-sole g c =
    let order = c.walk.order.items in
    let s = c.walk.invariant.state in
    let front = front_of order c.walk.head c.levels.«end» c.index-d.result.now c.walk-test.true s.within
    c.index-d.ensures in
    let h = get_or order c.walk.head 0 in
    rw front.is (c.requires.sole h
    (and_true_left (get_or c.args.marks.now h false) (g.A.After.formula c.args.change.now.after.now h)
    (s.framed h (in-get_or order c.walk.head 0 front.there))))

pub release-requires-clause-some : goal.release-requires-clause-some
release-requires-clause-some g c =
    let order = c.walk.order.items in
    let s = c.walk.invariant.state in
    let front = front_of order c.walk.head c.levels.«end» c.index-d.result.now c.walk-test.true s.within
    c.index-d.ensures in
    rw front.is (Levelling-lowers (g.A.After.refers c.args.change.now.after.now)
    (is_pending (g.A.After.formula c.args.change.now.after.now) (has_cell c.args.change.now.outside.now) c.args.marks.now)
    (is_frame (g.A.After.formula c.args.change.now.after.now) c.args.marks.now)
    CELLS
    (g.met.A.After.refers_below c.args.change.now.after.now)
    (frame_pending (g.A.After.formula c.args.change.now.after.now)
    (has_cell c.args.change.now.outside.now) c.args.marks.now)
    (frame_back (g.A.After.refers c.args.change.now.after.now)
    (g.A.After.formula c.args.change.now.after.now) c.args.marks.now
    c.requires.closed (g.met.A.After.refers_formula c.args.change.now.after.now))
    c.levels.head c.walk.head c.levels.«end» c.levels.k c.walk.left c.walk.level order s c.walk-test.true)

pub walk-preserved : goal.walk-preserved
walk-preserved g c =
    let order = c.walk.order.items in
    let s = c.walk.invariant.state in
    let front = front_of order c.walk.head c.levels.«end» c.index-d.result.now c.walk-test.true s.within
    c.index-d.ensures in
    let rel = rw front.is at c.release.ensures.released in
    let long = c.walk.auto.left in
    let long0 = c.levels.auto.left in
    record {
      state = Levelling-step (g.A.After.refers c.args.change.now.after.now)
          (is_pending (g.A.After.formula c.args.change.now.after.now)
          (has_cell c.args.change.now.outside.now) c.args.marks.now)
          (is_frame (g.A.After.formula c.args.change.now.after.now) c.args.marks.now)
          CELLS
          (g.met.A.After.refers_below c.args.change.now.after.now)
          (frame_pending (g.A.After.formula c.args.change.now.after.now)
          (has_cell c.args.change.now.outside.now) c.args.marks.now)
          (frame_back (g.A.After.refers c.args.change.now.after.now)
          (g.A.After.formula c.args.change.now.after.now) c.args.marks.now
          c.requires.closed (g.met.A.After.refers_formula c.args.change.now.after.now))
          (listed c.args.change.now.index.now (get_or order c.walk.head 0))
          c.levels.head c.walk.head c.levels.«end» c.levels.k c.walk.left c.walk.level order
          c.release.new.left c.release.new.level c.release.new.order.items s c.walk-test.true
          (omega (arith, long, long0))
          (λ x r. c.requires.lists_all x (get_or order c.walk.head 0) r) rel;
      levels = Levels-keep (g.A.After.refers c.args.change.now.after.now) (get_or order c.walk.head 0) (c.levels.k + 1)
          (listed c.args.change.now.index.now (get_or order c.walk.head 0))
          c.levels.starts.items c.walk.left c.walk.level order c.release.new.left c.release.new.level
          c.release.new.order.items c.walk.invariant.levels rel;
      room = c.release.ensures.room;
    }

pub push_reserved-requires-in-levels : goal.push_reserved-requires-in-levels
push_reserved-requires-in-levels g c =
    let i = c.levels.invariant in
    let few = few_levels _ _ _ _ _ _ _ i.levels i.state.queued i.count i.some i.begin
    c.levels-test.true i.state.within in
    let w = i.state.within in
    let count = i.count in
    let places = Queued-le c.levels.left c.levels.order.items i.state.queued in
    let room = i.room_starts in
    omega (arith, few, count, w, places, room)

pub levels-smaller : goal.levels-smaller
levels-smaller g c =
    let i = c.levels.invariant in
    let t = c.levels-test.true in
    let f = c.walk-test.false in
    let w = i.state.within in
    let few = Queued-le c.levels.left c.levels.order.items i.state.queued in
    let long0 = c.levels.auto.left in
    omega (arith, t, f, w, few, long0)

pub levels-preserved : goal.levels-preserved
levels-preserved g c =
    let i = c.levels.invariant in
    let j = c.walk.invariant in
    let k = c.levels.k in
    let starts = c.levels.starts.items in
    let t = c.levels-test.true in
    let f = c.walk-test.false in
    let r = j.state.reached in
    let same : c.walk.head ≡ c.levels.«end» = omega (arith, f, r) in
    let s = subst (λ e. Levelling (g.A.After.refers c.args.change.now.after.now)
    (is_pending (g.A.After.formula c.args.change.now.after.now) (has_cell c.args.change.now.outside.now) c.args.marks.now)
    (is_frame (g.A.After.formula c.args.change.now.after.now) c.args.marks.now)
    CELLS c.levels.head c.walk.head e k c.walk.left c.walk.level c.walk.order.items) (sym same) j.state in
    let long = c.len-end-in-levels.ensures in
    let last : c.len-end-in-levels.result ≡ length c.walk.order.items = omega arith in
    let items = c.push_reserved-in-levels.ensures.items in
    let count = i.count in
    let pushed = length_push starts c.levels.«end» in
    let count2 : length starts ≡ k + 1 - 1 = omega (arith, count) in
    let cap = c.push_reserved-in-levels.ensures.capacity in
    let room = i.room_starts in
    let long1 = c.walk.auto.left in
    record {
      state = rw last (Levelling-level (g.A.After.refers c.args.change.now.after.now)
          (is_pending (g.A.After.formula c.args.change.now.after.now)
          (has_cell c.args.change.now.outside.now) c.args.marks.now)
          (is_frame (g.A.After.formula c.args.change.now.after.now) c.args.marks.now)
          CELLS
          (g.met.A.After.refers_below c.args.change.now.after.now)
          (frame_pending (g.A.After.formula c.args.change.now.after.now)
          (has_cell c.args.change.now.outside.now) c.args.marks.now)
          (frame_back (g.A.After.refers c.args.change.now.after.now)
          (g.A.After.formula c.args.change.now.after.now) c.args.marks.now
          c.requires.closed (g.met.A.After.refers_formula c.args.change.now.after.now))
          c.levels.head c.walk.head k c.walk.left c.walk.level c.walk.order.items s);
      levels = rw items (Levels-more starts c.walk.order.items c.walk.level k c.levels.head c.levels.«end» j.levels
          count i.some i.begin t j.state.within j.state.current);
      last = last;
      count = rw items (omega (arith, pushed, count));
      some = omega arith;
      begin = rw items (get_or_push starts c.levels.«end» 0 (k + 1 - 1) count2 ∙ sym same);
      room = j.room;
      room_starts = omega (arith, cap, room, long1);
    }

pub overflow_add-k : goal.overflow_add-k
overflow_add-k g c =
    let i = c.levels.invariant in
    let few = few_levels _ _ _ _ _ _ _ i.levels i.state.queued i.count i.some i.begin
    c.levels-test.true i.state.within in
    let long = c.levels.auto.left in
    omega (arith, few, long, c.requires.left_length)

pub overflow_add-k-in-levels : goal.overflow_add-k-in-levels
overflow_add-k-in-levels g c =
    let i = c.levels.invariant in
    let few = few_levels _ _ _ _ _ _ _ i.levels i.state.queued i.count i.some i.begin
    c.levels-test.true i.state.within in
    let long = c.levels.auto.left in
    omega (arith, few, long, c.requires.left_length)

pub release-requires-clause-known : goal.release-requires-clause-known
release-requires-clause-known g c = λ e.
    let order = c.walk.order.items in
    let s = c.walk.invariant.state in
    let front = front_of order c.walk.head c.levels.«end» c.index-d.result.now c.walk-test.true s.within
    c.index-d.ensures in
    let b = s.queued.below (get_or order c.walk.head 0) (in-get_or order c.walk.head 0 front.there) in
    c.requires.known c.index-d.result.now e
    (omega (arith, front.is, b, c.walk.auto.left, c.levels.auto.left, c.requires.left_length))

pub overflow_cast-end : goal.overflow_cast-end
overflow_cast-end g c =
    let i = c.levels.invariant in
    let w = i.state.within in
    let few = Queued-le c.levels.left c.levels.order.items i.state.queued in
    let long0 = c.levels.auto.left in
    omega (arith, w, few, long0, c.requires.left_length)

pub returns-clause-ended : goal.returns-clause-ended
returns-clause-ended g c =
    let i = c.levels.invariant in
    let f = c.levels-test.false in
    let r = i.state.reached in
    let last = i.last in
    let same : c.levels.head ≡ length c.levels.order.items = omega (arith, f, r, last) in
    rw (same, last, sym i.count) at i.state
