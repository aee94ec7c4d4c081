use Rattle.std.proofs.Common.{◌≡◌, ◌≤◌, ◌-◌, ◌+◌, ℕ, None, length, get_or}
use Rattle.std.specs.Prelude.{vec_capacity}
use Rattle.ps_shown.proofs.blocks.reach.Given as goal

abbrev pub invariant-loop-sums : goal.invariant-loop-sums
invariant-loop-sums l = record {
  same : (b : ℕ) → get_or l.sums.items b None ≡ get_or l.initial.sums.items b None;
  room : vec_capacity l.initial.sums ≤ vec_capacity l.sums;
}

abbrev pub decreases-loop-sums : goal.decreases-loop-sums
decreases-loop-sums l = l.block + 1 - length l.sums.items
