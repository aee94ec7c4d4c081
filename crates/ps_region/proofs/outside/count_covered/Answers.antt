use Rattle.std.proofs.Common.{◌≡◌, ◌+◌, ◌<◌, ◌&&◌, ◌++◌, ◌∷◌, [], ℕ, List, arith, sym, ap, ◌∙◌, take, length}
use Rattle.std.proofs.lemmas.List.{take_all, take_more}
use Rattle.ps_grid.specs.declared.size.TheConstants.{CELLS}
use Rattle.ps_grid.specs.Rectangle.{Area, is_inside}
use Rattle.ps_region.specs.Inside.Counts.{count_below}
use Rattle.ps_region.specs.Inside.Outside.{is_covered, is_new, is_outside}
use Rattle.ps_region.proofs.CountLemmas.{count_below-le}
use Rattle.ps_region.proofs.OutsideCounts.{no_rects, next_rect}
use Rattle.ps_region.proofs.outside.count_covered.Goals as goal

pub loop-i-init : goal.loop-i-init
loop-i-init c = sym (no_rects c.args.set.now c.args.marks.now)

pub overflow_add-count : goal.overflow_add-count
overflow_add-count c =
    let so_far = count_below-le
    (λ d. is_covered (take c.loop-i.i c.args.rects.now) d && is_outside c.args.set.now c.args.marks.now d) CELLS in
    let more = count_below-le
    (λ d. is_inside c.index-rects-i.result d
    && is_new c.args.set.now c.args.marks.now (take c.loop-i.i c.args.rects.now) d) CELLS in
    omega (arith, so_far, more, c.loop-i.invariant, c.count_new-count.ensures)

pub loop-i-preserved : goal.loop-i-preserved
loop-i-preserved c =
    let rects = c.args.rects.now in
    let i = c.loop-i.i in
    let r : Area = c.index-rects-i.result in
    let lt : i < length rects = omega (arith, c.loop-i-test.true, c.loop-i.auto.i-end) in
    let longer : take (i + 1) rects ≡ take i rects ++ r ∷ [] =
    take_more rects i r lt ∙ ap (λ (q : Area). take i rects ++ q ∷ []) (sym c.index-rects-i.is) in
    (λ k. c.loop-i.invariant k + c.count_new-count.ensures k)
    ∙ sym (next_rect c.args.set.now c.args.marks.now (take i rects) (take (i + 1) rects) r longer)

pub returns : goal.returns
returns c =
    c.loop-i.invariant
    ∙ ap (λ (xs : List Area). count_below (λ d. is_covered xs d && is_outside c.args.set.now c.args.marks.now d) CELLS)
    (take_all c.loop-i.i c.args.rects.now (omega (arith, c.loop-i-test.false, c.loop-i.auto.i-end)))
