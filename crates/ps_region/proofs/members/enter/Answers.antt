use Rattle.std.proofs.Common.{◌<◌, arith, ℕ, sym, length}
use Rattle.ps_region.proofs.CellListLemmas.{marked_room, Marked-push}
use Rattle.ps_region.proofs.GrowthCounts.{counted_in-enter}
use Rattle.ps_region.proofs.members.enter.Goals as goal

pub push_reserved-requires : goal.push_reserved-requires
push_reserved-requires c =
    let lt : c.index-place.result < length c.args.marks.now =
    omega (arith, c.index-place.ensures.in_grid, c.requires.marks_length) in
    let room = marked_room c.args.marks.now c.args.members.now.items c.index-place.result c.requires.marked lt
    c.if-not-marks-place.true in
    omega (arith, room, c.requires.room, c.requires.marks_length)

pub returns-then-not-marks-place-clause-marked : goal.returns-then-not-marks-place-clause-marked
returns-then-not-marks-place-clause-marked c =
    let lt : c.index-place.result < length c.args.marks.now =
    omega (arith, c.index-place.ensures.in_grid, c.requires.marks_length) in
    rw (c.push_reserved.ensures.items, sym c.index-place.ensures.index)
    (Marked-push c.args.marks.now c.args.members.now.items c.index-place.result c.requires.marked lt
    c.if-not-marks-place.true)

pub returns-then-not-marks-place-clause-counts : goal.returns-then-not-marks-place-clause-counts
returns-then-not-marks-place-clause-counts c = λ (q : ℕ).
    let lt : c.index-place.result < length c.args.left.now =
    omega (arith, c.index-place.ensures.in_grid, c.requires.left_length) in
    rw (c.push_reserved.ensures.items, sym c.index-place.ensures.index)
    (counted_in-enter c.args.marks.now c.args.members.now.items c.args.left.now c.index-place.result
    c.requires.marked c.if-not-marks-place.true lt q)
