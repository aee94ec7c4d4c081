use Rattle.std.proofs.Common.{◌+◌, ◌&&◌, arith}
use Rattle.std.proofs.Common.{sym, ap, ◌∙◌, eqb, not, ◌<◌, take, length}
use Rattle.std.specs.List.{list_any}
use Rattle.ps_grid.specs.Chains.{In}
use Rattle.ps_region.specs.Inside.Cells.{with_all, with_cell}
use Rattle.ps_region.specs.Inside.Counts.{as_one, counted_in}
use Rattle.ps_region.specs.Listed.{listed}
use Rattle.ps_region.proofs.ListedLemmas.{next_listed, all_listed, listed_below}
use Rattle.ps_region.proofs.SoleDependents.{sole_more}
use Rattle.ps_region.proofs.CellListLemmas.{now_in, with_all_more}
use Rattle.ps_region.proofs.GrowthCounts.{counted_yes, counted_no}
use Rattle.ps_region.proofs.TouchedLemmas.{not_not}
use Rattle.ps_region.proofs.grow.enter_each.Goals as goal
use Rattle.ps_region.proofs.grow.enter_each.Goals.{then-is_counted, else-is_counted}

pub is_counted-requires-clause-known : goal.is_counted-requires-clause-known
is_counted-requires-clause-known g c =
    let n = next_listed g.W.Iterator.next_gives c.args.change.now.index.now c.args.d c.loop-e.yielded _ _
    c.into_iter-e-iterator.ensures.into_iter_gives c.requires.walks c.loop-e.yielded_by c.next.ensures.steps
    c.in-Some.e c.in-Some.is in
    c.requires.known c.in-Some.e n.inside

pub add_one-requires-clause-small : goal.add_one-requires-clause-small
add_one-requires-clause-small g c =
    let n = next_listed g.W.Iterator.next_gives c.args.change.now.index.now c.args.d c.loop-e.yielded _ _
    c.into_iter-e-iterator.ensures.into_iter_gives c.requires.walks c.loop-e.yielded_by c.next.ensures.steps
    c.in-Some.e c.in-Some.is in
    let e = c.in-Some.e in
    let inside : In c.enter.new.members.items e =
    now_in c.loop-e.members.items c.enter.new.members.items e c.enter.ensures.members in
    let now = rw inside at (c.enter.ensures.counts e) in
    let was = rw n.new at (c.loop-e.invariant.counts e) in
    let small = c.requires.small e in
    omega (arith, now, was, small)

pub loop-e-preserved : goal.loop-e-preserved
loop-e-preserved g c =
    let n = next_listed g.W.Iterator.next_gives c.args.change.now.index.now c.args.d c.loop-e.yielded _ _
    c.into_iter-e-iterator.ensures.into_iter_gives c.requires.walks c.loop-e.yielded_by c.next.ensures.steps
    c.in-Some.e c.in-Some.is in
    let all = listed c.args.change.now.index.now c.args.d in
    let e = c.in-Some.e in
    let i = length c.loop-e.yielded in
    let push = n.push in
    let inside : In c.enter.new.members.items e =
    now_in c.loop-e.members.items c.enter.new.members.items e c.enter.ensures.members in
    let low : e < length c.enter.new.left =
    omega (
      arith,
      listed_below c.args.change.now.index.now c.args.d e n.inside,
      c.enter.auto.left,
      c.loop-e.auto.left,
      c.requires.left_length,
    ) in
    record {
      can_next = rw c.in-Some.is at c.next.ensures.goes.keeps;
      is_finite = (rw c.in-Some.is at (c.next.ensures.goes.on c.loop-e.invariant.is_finite)).1;
      members = rw n.push (c.enter.ensures.members ∙ (ap (λ xs. with_cell xs e) c.loop-e.invariant.members
          ∙ (ap (λ x. with_cell (with_all c.args.members.now.items (take i all)) x) n.at
          ∙ sym (with_all_more c.args.members.now.items all i 0 n.below))));
      marked = c.enter.ensures.marked;
      room = c.enter.ensures.room;
      counts = elim c.if-is_counted.branch [
        | then-is_counted w ↦ λ q. rw (w.left-is, w.add_one.ensures, n.push, n.more)
            (counted_yes (λ x. g.A.After.formula c.args.change.now.after.now c.args.d
            && g.A.After.refers c.args.change.now.after.now x c.args.d) (take i all)
            (λ x. counted_in c.args.members.now.items c.args.left.now x) c.enter.new.members.items c.enter.new.left e
            (λ x. c.enter.ensures.counts x ∙ c.loop-e.invariant.counts x)
            inside
            (sym (w.if-is_counted.ensures
            ∙ ap (λ b. b && g.A.After.refers c.args.change.now.after.now e c.args.d)
            (c.has_formula-counted.ensures
            ∙ (ap not c.requires.formula ∙ not_not (g.A.After.formula c.args.change.now.after.now c.args.d)))))
            n.new low q)
        | else-is_counted w ↦ λ q. rw (w.left-is, n.push, n.more)
            (counted_no (λ x. g.A.After.formula c.args.change.now.after.now c.args.d
            && g.A.After.refers c.args.change.now.after.now x c.args.d) (take i all)
            (λ x. counted_in c.args.members.now.items c.args.left.now x) c.enter.new.members.items c.enter.new.left e
            (λ x. c.enter.ensures.counts x ∙ c.loop-e.invariant.counts x)
            (sym (w.if-is_counted.ensures
            ∙ ap (λ b. b && g.A.After.refers c.args.change.now.after.now e c.args.d)
            (c.has_formula-counted.ensures
            ∙ (ap not c.requires.formula ∙ not_not (g.A.After.formula c.args.change.now.after.now c.args.d))))) q)
      ];
      noted = rw (n.push, n.more) (sole_more (take i all) c.loop-e.noted c.noted_with-noted.result e
          c.loop-e.invariant.noted (listed_below c.args.change.now.index.now c.args.d e n.inside)
          c.noted_with-noted.ensures.first c.noted_with-noted.ensures.second c.noted_with-noted.ensures.more);
    }

pub returns-clause-members : goal.returns-clause-members
returns-clause-members g c =
    c.loop-e.invariant.members
    ∙ ap (λ xs. with_all c.args.members.now.items xs)
    (all_listed g.W.Iterator.next_gives c.args.change.now.index.now c.args.d c.loop-e.yielded _ _
    c.into_iter-e-iterator.ensures.into_iter_gives c.requires.walks c.loop-e.yielded_by c.next.ensures.steps
    c.in-None.is)

pub returns-clause-counts : goal.returns-clause-counts
returns-clause-counts g c = λ q.
    c.loop-e.invariant.counts q
    ∙ ap (λ xs. counted_in c.args.members.now.items c.args.left.now q
    + as_one (list_any (eqb q) xs
    && (g.A.After.formula c.args.change.now.after.now c.args.d
    && g.A.After.refers c.args.change.now.after.now q c.args.d)))
    (all_listed g.W.Iterator.next_gives c.args.change.now.index.now c.args.d c.loop-e.yielded _ _
    c.into_iter-e-iterator.ensures.into_iter_gives c.requires.walks c.loop-e.yielded_by c.next.ensures.steps
    c.in-None.is)

pub returns-clause-sole : goal.returns-clause-sole
returns-clause-sole g c =
    let all =
    all_listed g.W.Iterator.next_gives c.args.change.now.index.now c.args.d c.loop-e.yielded _ _
    c.into_iter-e-iterator.ensures.into_iter_gives c.requires.walks c.loop-e.yielded_by c.next.ensures.steps
    c.in-None.is in
    rw all at c.loop-e.invariant.noted
