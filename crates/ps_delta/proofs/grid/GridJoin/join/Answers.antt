use Rattle.std.proofs.Common.{◌∙◌, sym, ap, length}
use Rattle.ps_delta.specs.State.{joined_cells, joined_state, state_at}
use Rattle.ps_delta.proofs.BlockLemmas.{state_at-joined_blocks}
use Rattle.ps_delta.proofs.PlaceLemmas.{length-same}
use Rattle.ps_delta.proofs.grid.GridJoin.join.Goals as goal

pub invariant_of-self : goal.invariant_of-self
invariant_of-self c =
    let size = ap length c.deref.ensures.value ∙ c.self.invariant.0 in (
      ap length c.in_ok-self-inside.ensures.ok
          ∙ length-same joined_cells c.deref.result.now c.deref-2.result.now
          (size ∙ sym (ap length c.deref-2.ensures.value ∙ c.other.invariant.0))
          ∙ size,
      c.self.invariant.1,
    )

pub returns-clause-cells : goal.returns-clause-cells
returns-clause-cells c =
    ap state_at c.in_ok-self-inside.ensures.ok ∙ state_at-joined_blocks c.deref.result.now c.deref-2.result.now
    ∙ (λ k. joined_state (state_at ((c.deref.ensures.value ∙ c.self.view_is) k))
    (state_at ((c.deref-2.ensures.value ∙ c.other.view_is) k)))
