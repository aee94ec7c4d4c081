use Rattle.std.proofs.Common.{◌≡◌, ◌<◌, true, take, arith, length, sym, subst}
use Rattle.ps_region.specs.Listed.{listed}
use Rattle.ps_region.proofs.ListedLemmas.{listed_below, next_listed, all_listed}
use Rattle.ps_region.specs.Inside.Counts.{Released}
use Rattle.ps_region.proofs.ReleaseLemmas.{Released-skip, Released-lower}
use Rattle.ps_region.proofs.levels.release_each.Goals as goal

pub still_refers-requires-clause-known : goal.still_refers-requires-clause-known
still_refers-requires-clause-known g c =
    let n = next_listed g.W.Iterator.next_gives c.args.change.now.index.now c.args.d c.loop-e.yielded _ _
    c.into_iter-e-iterator.ensures.into_iter_gives c.requires.walks c.loop-e.yielded_by c.next.ensures.steps
    c.in-Some.e c.in-Some.is in
    c.requires.known c.in-Some.e n.inside

pub lower-requires-clause-some : goal.lower-requires-clause-some
lower-requires-clause-some g c =
    let n = next_listed g.W.Iterator.next_gives c.args.change.now.index.now c.args.d c.loop-e.yielded _ _
    c.into_iter-e-iterator.ensures.into_iter_gives c.requires.walks c.loop-e.yielded_by c.next.ensures.steps
    c.in-Some.e c.in-Some.is in
    let e = c.in-Some.e in
    let some = c.requires.some e (sym c.if-still_refers.ensures) in
    let o = rw n.new at (c.loop-e.invariant.released.counted e) in
    omega (arith, some, o)

pub loop-e-preserved-then-still_refers : goal.loop-e-preserved-then-still_refers
loop-e-preserved-then-still_refers g c =
    let n = next_listed g.W.Iterator.next_gives c.args.change.now.index.now c.args.d c.loop-e.yielded _ _
    c.into_iter-e-iterator.ensures.into_iter_gives c.requires.walks c.loop-e.yielded_by c.next.ensures.steps
    c.in-Some.e c.in-Some.is in
    let e = c.in-Some.e in
    let came = take (length c.loop-e.yielded) (listed c.args.change.now.index.now c.args.d) in
    let rel = c.loop-e.invariant.released in
    let low : e < length c.loop-e.left =
    (let b = listed_below c.args.change.now.index.now c.args.d e n.inside in
    omega (arith, b, c.loop-e.auto.left, c.requires.left_length)) in
    let long : length c.loop-e.left ≡ length c.loop-e.level =
    omega (arith, c.loop-e.auto.left, c.loop-e.auto.level, c.requires.left_length, c.requires.level_length) in
    let r : g.A.After.refers c.args.change.now.after.now e c.args.d ≡ true = sym c.if-still_refers.ensures in
    let o = rw n.new at (rel.counted e) in
    let some = c.requires.some e r in
    record {
      can_next = rw c.in-Some.is at c.next.ensures.goes.keeps;
      is_finite = (rw c.in-Some.is at (c.next.ensures.goes.on c.loop-e.invariant.is_finite)).1;
      released = rw (n.push, n.more)
          (Released-lower (g.A.After.refers c.args.change.now.after.now) c.args.d c.args.k came c.args.left.now
          c.args.level.now c.args.order.now.items
          c.loop-e.left c.loop-e.level c.loop-e.order.items c.lower.new.left c.lower.new.level c.lower.new.order.items e
          rel r n.new low long (omega (arith, o, some)) c.lower.ensures.left c.lower.ensures.more c.lower.ensures.last);
      room = c.lower.ensures.room;
    }

pub loop-e-preserved : goal.loop-e-preserved
loop-e-preserved g c =
    let n = next_listed g.W.Iterator.next_gives c.args.change.now.index.now c.args.d c.loop-e.yielded _ _
    c.into_iter-e-iterator.ensures.into_iter_gives c.requires.walks c.loop-e.yielded_by c.next.ensures.steps
    c.in-Some.e c.in-Some.is in
    let came = take (length c.loop-e.yielded) (listed c.args.change.now.index.now c.args.d) in
    record {
      can_next = rw c.in-Some.is at c.next.ensures.goes.keeps;
      is_finite = (rw c.in-Some.is at (c.next.ensures.goes.on c.loop-e.invariant.is_finite)).1;
      released = rw (n.push, n.more)
          (Released-skip (g.A.After.refers c.args.change.now.after.now) c.args.d c.args.k came c.args.left.now
          c.args.level.now c.args.order.now.items
          c.loop-e.left c.loop-e.level c.loop-e.order.items c.in-Some.e c.loop-e.invariant.released
          (sym c.if-still_refers.ensures));
      room = c.loop-e.invariant.room;
    }

pub returns : goal.returns
returns g c =
    let all =
    all_listed g.W.Iterator.next_gives c.args.change.now.index.now c.args.d c.loop-e.yielded _ _
    c.into_iter-e-iterator.ensures.into_iter_gives c.requires.walks c.loop-e.yielded_by c.next.ensures.steps
    c.in-None.is in
    record {
      released = subst (λ xs.
          Released (g.A.After.refers c.args.change.now.after.now) c.args.d c.args.k xs c.args.left.now c.args.level.now
          c.args.order.now.items
          c.loop-e.left c.loop-e.level c.loop-e.order.items)
          all c.loop-e.invariant.released;
      room = c.loop-e.invariant.room;
    }
