use Rattle.std.proofs.Common.{◌≡◌, get_or, arith, sym, ◌∙◌}
use Rattle.std.proofs.lemmas.List.{get_or_read}
use Rattle.ps_region.proofs.CellListLemmas.{cleared_step, cleared_end}
use Rattle.ps_region.proofs.TouchedLemmas.{none_left}
use Rattle.ps_region.proofs.members.clear.Goals as goal

pub loop-c-init : goal.loop-c-init
loop-c-init c = record {
  marks = λ q t. rw c.deref-c-items.ensures.value (sym (c.requires.marked.same q) ∙ t);
  fresh = λ q t. rw c.deref-c-items.ensures.value (c.requires.fresh_members q t);
  plain = λ q t. rw c.deref-c-items.ensures.value (c.requires.plain_members q t);
}

pub loop-c-preserved : goal.loop-c-preserved
loop-c-preserved c =
    let items = c.deref-c-items.result.now in
    let i = c.loop-c.c-index in
    let at = get_or_read items i c.c-item.result c.loop-c-test.true c.c-item.is 0 in
    let place : c.index-place.result ≡ get_or items i 0 = c.index-place.ensures.index ∙ at in
    record {
      marks = rw place (cleared_step c.loop-c.marks items i c.loop-c-test.true
          (omega (arith, place, c.index-place.ensures.in_grid, c.loop-c.auto.marks, c.requires.marks_length))
          c.loop-c.invariant.marks);
      fresh = rw place (cleared_step c.loop-c.fresh items i c.loop-c-test.true
          (omega (arith, place, c.index-place.ensures.in_grid, c.loop-c.auto.fresh, c.requires.fresh_length))
          c.loop-c.invariant.fresh);
      plain = rw place (cleared_step c.loop-c.plain items i c.loop-c-test.true
          (omega (arith, place, c.index-place.ensures.in_grid, c.loop-c.auto.plain, c.requires.plain_length))
          c.loop-c.invariant.plain);
    }

pub returns-clause-marked : goal.returns-clause-marked
returns-clause-marked c =
    cleared_end c.loop-c.marks c.deref-c-items.result.now c.loop-c.c-index c.loop-c-test.false c.loop-c.invariant.marks

pub returns-clause-no_fresh : goal.returns-clause-no_fresh
returns-clause-no_fresh c =
    none_left c.loop-c.fresh c.deref-c-items.result.now c.loop-c.c-index c.loop-c-test.false c.loop-c.invariant.fresh

pub returns-clause-no_plain : goal.returns-clause-no_plain
returns-clause-no_plain c =
    none_left c.loop-c.plain c.deref-c-items.result.now c.loop-c.c-index c.loop-c-test.false c.loop-c.invariant.plain
