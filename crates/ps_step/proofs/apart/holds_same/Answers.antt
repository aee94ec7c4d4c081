use Rattle.std.proofs.Common.{◌≡◌, ◌∙◌, subst, sym, true≢false}
use Rattle.ps_delta.specs.declared.cell_state.CellState.{CellState}
use Rattle.ps_delta.specs.State.{joined_cell}
use Rattle.ps_delta.specs.CellLaws.{joined_cell-comm, joined_cell-idem}
use Rattle.ps_step.proofs.apart.holds_same.Goals as goal

-- each of two states adds nothing to the other
same : (s t : CellState) → joined_cell t s ≡ t → joined_cell s t ≡ s → s ≡ t
same s t below above = sym above ∙ joined_cell-comm s t ∙ below

adds_nothing : (s t : CellState) → s ≡ t → joined_cell t s ≡ t
adds_nothing s t is = subst (λ x. joined_cell x s ≡ x) is (joined_cell-idem s)

pub returns-then-below : goal.returns-then-below
returns-then-below c = (
  λ h. same _ _ (c.below.ensures.0 c.if-below.true) (c.below-then-below.ensures.0 h),
  λ h. c.below-then-below.ensures.1 (adds_nothing _ _ (sym h)),
)

pub returns-else-below : goal.returns-else-below
returns-else-below c = (
  λ h. absurd (true≢false (sym h ∙ c.if-below.false)),
  λ h. absurd (true≢false (sym (c.below.ensures.1 (adds_nothing _ _ h)) ∙ c.if-below.false)),
)
