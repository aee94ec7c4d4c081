use Rattle.std.proofs.Common.{◌∙◌, sym, refl, subst, true≢false}
use Rattle.std.proofs.lemmas.List.{take_all}
use Rattle.ps_delta.specs.State.{IsBelow, state_at}
use Rattle.ps_delta.specs.Deltas.{state_of}
use Rattle.ps_delta.proofs.GridLemmas.{below_none}
use Rattle.ps_delta.proofs.WalkLemmas.{walk-below, walk-not_below}
use Rattle.ps_delta.proofs.grid.Grid.covers.Goals as goal

pub loop-entry-init : goal.loop-entry-init
loop-entry-init c = below_none _

pub returns-then-not-below : goal.returns-then-not-below
returns-then-not-below c = (
  λ t. cc,
  λ b. absurd (walk-not_below _ _ _ _ _ c.parts-parts.ensures.delta c.loop-entry-test.true c.entry-item.is
      c.at.ensures.value
      (λ h. true≢false (sym (c.below.ensures.1 h) ∙ c.if-not-below.true))
      (subst (λ ds. IsBelow (state_of ds) (state_at c.args.self.now)) (sym c.parts-parts.ensures.value) b)),
)

pub loop-entry-preserved : goal.loop-entry-preserved
loop-entry-preserved c =
    walk-below _ _ _ _ _ c.parts-parts.ensures.delta c.loop-entry-test.true c.entry-item.is c.at.ensures.value
    (c.below.ensures.0 c.if-not-below.false) c.loop-entry.invariant

pub returns : goal.returns
returns c =
    let all = take_all c.loop-entry.entry-index c.parts-parts.result.now c.loop-entry-test.false
    ∙ c.parts-parts.ensures.value in
    (λ t. rw all at c.loop-entry.invariant, λ b. refl)
