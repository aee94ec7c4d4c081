use Rattle.std.proofs.Common.{arith, ◌∙◌, ap, [], ◌≡◌, ◌<◌, ◌&&◌, false, take, length, get_or, eqb}
use Rattle.ps_grid.specs.declared.size.TheConstants.{CELLS}
use Rattle.ps_region.specs.Listed.{listed}
use Rattle.std.specs.List.{list_any}
use Rattle.std.proofs.lemmas.List.{get_or_read, take_all}
use Rattle.ps_region.specs.Inside.Cells.{HasSole}
use Rattle.ps_region.specs.Inside.Counts.{cells_left, is_walked}
use Rattle.ps_region.proofs.CellListLemmas.{marked_below, marked_le, in-get_or, in-take_apart}
use Rattle.ps_region.proofs.GrowthLemmas.{Grown-start, Grown-step, Grown-complete}
use Rattle.ps_region.proofs.GrowthCounts.{counts_start, counts_step, cells_left-lt}
use Rattle.ps_region.proofs.TouchedLemmas.{plain_known}
use Rattle.ps_region.proofs.SoleDependents.{soles_step, soles_end}
use Rattle.ps_region.proofs.grow.grow.Goals as goal

pub loop-head-init : goal.loop-head-init
loop-head-init g c = record {
  marked = c.enter_all.ensures.marked;
  room = c.enter_all.ensures.room;
  grown = rw (c.enter_all.ensures.members, c.requires.empty)
      (Grown-start (g.A.After.refers c.args.change.now.after.now)
      (listed c.args.change.now.index.now) c.args.change.now.touched.now);
  soles = λ p lt. absurd (omega arith);
  counts = λ q. rw (c.enter_all.ensures.members, c.requires.empty)
      (counts_start (g.A.After.refers c.args.change.now.after.now)
      (g.A.After.formula c.args.change.now.after.now) c.args.members.now.items
      c.args.change.now.touched.now c.args.left.now c.enter_all.new.left CELLS
      c.requires.empty (rw c.enter_all.ensures.members at c.enter_all.ensures.counts) q);
}

pub enter_dependents-requires-clause-small : goal.enter_dependents-requires-clause-small
enter_dependents-requires-clause-small g c = λ q.
    let members = c.loop-head.members.items in
    let lt : c.loop-head.head < length members = omega arith in
    let h = get_or members c.loop-head.head 0 in
    let below = marked_below c.loop-head.marks members c.loop-head.invariant.marked h
    (in-get_or members c.loop-head.head 0 lt) in
    let long = c.loop-head.auto.marks in
    let long2 = c.enter_all.auto.marks in
    let long3 = c.loop-head.auto.left in
    let long4 = c.enter_all.auto.left in
    let same = c.requires.marks_length in
    let new : list_any (eqb h) (take c.loop-head.head members) ≡ false =
    in-take_apart members c.loop-head.head c.loop-head.invariant.marked.once lt in
    let small = cells_left-lt (g.A.After.refers c.args.change.now.after.now)
    (is_walked (g.A.After.formula c.args.change.now.after.now) (take c.loop-head.head members)) CELLS q h
    (omega (arith, below, long, long2, same)) (ap (λ b. b && g.A.After.formula c.args.change.now.after.now h) new) in
    let is = c.loop-head.invariant.counts q in
    omega (arith, small, is, long3, long4)

pub enter_dependents-requires-clause-known : goal.enter_dependents-requires-clause-known
enter_dependents-requires-clause-known g c = λ e.
    let members = c.loop-head.members.items in
    let lt : c.loop-head.head < length members = omega arith in
    let at = get_or_read members c.loop-head.head c.index-d.result.now lt c.index-d.ensures 0 in
    let h = get_or members c.loop-head.head 0 in
    let below = marked_below c.loop-head.marks members c.loop-head.invariant.marked h
    (in-get_or members c.loop-head.head 0 lt) in
    c.requires.known c.index-d.result.now e
    (omega (arith, at, below, c.loop-head.auto.marks, c.enter_all.auto.marks, c.requires.marks_length))

pub enter_dependents-requires-clause-formula : goal.enter_dependents-requires-clause-formula
enter_dependents-requires-clause-formula g c =
    let members = c.loop-head.members.items in
    let lt : c.loop-head.head < length members = omega arith in
    let at = get_or_read members c.loop-head.head c.index-d.result.now lt c.index-d.ensures 0 in
    let h = get_or members c.loop-head.head 0 in
    rw at (plain_known (g.A.After.refers c.args.change.now.after.now)
    (g.A.After.formula c.args.change.now.after.now) c.args.change.now.plain.now
    c.args.change.now.touched.now
    (g.met.A.After.refers_formula c.args.change.now.after.now) c.requires.plain h
    (c.loop-head.invariant.grown.sound h (in-get_or members c.loop-head.head 0 lt)))

pub loop-head-smaller : goal.loop-head-smaller
loop-head-smaller g c =
    let le = marked_le c.loop-head.marks c.loop-head.members.items c.loop-head.invariant.marked in
    let long = c.loop-head.auto.marks in
    omega arith

pub loop-head-preserved : goal.loop-head-preserved
loop-head-preserved g c =
    let members = c.loop-head.members.items in
    let lt : c.loop-head.head < length members = omega arith in
    let at = get_or_read members c.loop-head.head c.index-d.result.now lt c.index-d.ensures 0 in
    let h = get_or members c.loop-head.head 0 in
    let below = marked_below c.loop-head.marks members c.loop-head.invariant.marked h
    (in-get_or members c.loop-head.head 0 lt) in
    let long = c.loop-head.auto.marks in
    let long2 = c.enter_all.auto.marks in
    let same = c.requires.marks_length in
    record {
      marked = c.enter_dependents.ensures.marked;
      room = c.enter_dependents.ensures.room;
      grown = rw (c.enter_dependents.ensures.members, at)
          (Grown-step (g.A.After.refers c.args.change.now.after.now)
          (listed c.args.change.now.index.now) c.args.change.now.touched.now
          c.loop-head.head members (λ x i. c.requires.extra x h (omega (arith, below, long, long2, same)) i)
          c.loop-head.invariant.grown lt);
      soles = rw c.enter_dependents.ensures.members
          (rw at (λ p. soles_step (λ m n. HasSole (listed c.args.change.now.index.now m) n) members
          (listed c.args.change.now.index.now h) c.loop-head.sole c.enter_dependents.new.sole c.loop-head.head lt
          c.loop-head.invariant.marked.once (rw at at c.enter_dependents.ensures.sole)
          (rw at at c.enter_dependents.ensures.others) c.loop-head.invariant.soles p));
      counts = λ q. rw (c.enter_dependents.ensures.members, at)
          (counts_step (g.A.After.refers c.args.change.now.after.now)
          (g.A.After.formula c.args.change.now.after.now) members
          (listed c.args.change.now.index.now h)
          c.loop-head.left c.enter_dependents.new.left c.loop-head.head CELLS lt c.loop-head.invariant.marked.once
          (omega (arith, below, long, long2, same))
          (λ x r. c.requires.lists_all x h r)
          c.loop-head.invariant.counts
          (rw (c.enter_dependents.ensures.members, at) at c.enter_dependents.ensures.counts) q);
    }

pub returns-clause-complete : goal.returns-clause-complete
returns-clause-complete g c =
    Grown-complete (g.A.After.refers c.args.change.now.after.now)
    (listed c.args.change.now.index.now) c.args.change.now.touched.now
    (c.requires.lists_all) c.loop-head.head c.loop-head.members.items c.loop-head.invariant.grown (omega arith)

pub returns-clause-counts : goal.returns-clause-counts
returns-clause-counts g c = λ q. c.loop-head.invariant.counts q
    ∙ ap (λ xs. cells_left (g.A.After.refers c.args.change.now.after.now)
    (is_walked (g.A.After.formula c.args.change.now.after.now) xs) []
    CELLS q)
    (take_all c.loop-head.head c.loop-head.members.items (omega arith))

pub returns-clause-sole : goal.returns-clause-sole
returns-clause-sole g c =
    soles_end (λ m n. HasSole (listed c.args.change.now.index.now m) n) c.loop-head.members.items c.loop-head.sole
    c.loop-head.head (omega arith) c.loop-head.invariant.soles
