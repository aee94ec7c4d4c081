use Rattle.std.proofs.Common.{◌≡◌, ℕ, length}
use Rattle.ps_delta.specs.State.{joined_state, state_at}
use Rattle.ps_delta.specs.Deltas.{cells_of, state_of}
use Rattle.ps_delta.specs.Order.{Rising}
use Rattle.ps_squash.specs.Selected.{delta_without}
use Rattle.ps_squash.proofs.taken.join_without.Given as goal

abbrev pub invariant-cells : goal.invariant-cells
invariant-cells l = record {
  joined : joined_state (state_at l.state) (state_of (delta_without l.fn.replica l.left))
      ≡ joined_state (state_at l.fn.state) (state_of (delta_without l.fn.replica l.fn.delta));
  rising : (n : ℕ) × Rising n (cells_of l.left);
}

abbrev pub decreases-cells : goal.decreases-cells
decreases-cells l = length l.left
