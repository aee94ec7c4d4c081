use Rattle.std.proofs.Common.{◌∙◌, sym, true≢false}
use Rattle.std.proofs.lemmas.List.{take_all}
use Rattle.ps_delta.proofs.GridLemmas.{touched_none}
use Rattle.ps_delta.proofs.WalkLemmas.{walk-same, walk-more, walk-last, walk-in_grid}
use Rattle.ps_delta.proofs.grid.Grid.touched.Goals.{then-not-below, else-not-below}
use Rattle.ps_delta.proofs.grid.Grid.touched.Goals as goal

pub loop-change-init : goal.loop-change-init
loop-change-init c = rw c.clear.ensures (touched_none _)

pub add-requires-clause-in_grid : goal.add-requires-clause-in_grid
add-requires-clause-in_grid c =
    walk-in_grid _ _ _ c.loop-change-test.true c.change-item.is c.parts-parts.ensures.in_grid

pub add-requires-clause-above : goal.add-requires-clause-above
add-requires-clause-above c =
    walk-last _ _ _ _ _ c.parts-parts.ensures.delta c.loop-change-test.true c.change-item.is c.at.ensures.value _
    c.loop-change.invariant

pub loop-change-preserved : goal.loop-change-preserved
loop-change-preserved c =
    elim c.if-not-below.branch [
      | then-not-below w ↦ rw (w.touched-is, w.add.ensures)
          (walk-more _ _ _ _ _ c.parts-parts.ensures.delta c.loop-change-test.true c.change-item.is c.at.ensures.value _
          (λ h. true≢false (sym (c.below.ensures.1 h) ∙ w.if-not-below.true)) c.loop-change.invariant)
      | else-not-below w ↦ rw w.touched-is
          (walk-same _ _ _ _ _ c.parts-parts.ensures.delta c.loop-change-test.true c.change-item.is c.at.ensures.value _
          (c.below.ensures.0 w.if-not-below.false) c.loop-change.invariant)
    ]

pub returns : goal.returns
returns c =
    let all = take_all c.loop-change.change-index c.parts-parts.result.now c.loop-change-test.false
    ∙ c.parts-parts.ensures.value in
    rw all at c.loop-change.invariant
