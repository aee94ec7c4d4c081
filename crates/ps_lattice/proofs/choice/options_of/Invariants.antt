use Rattle.std.proofs.Common.{◌≡◌, ℕ, ◌<◌, ◌≤◌, ◌-◌, length, take, cond}
use Rattle.std.specs.Int.{bit_at}
use Rattle.std.specs.List.{list_any}
use Rattle.ps_lattice.specs.Choice.{is_live}
use Rattle.ps_lattice.specs.declared.limits.TheConstants.{OPTIONS}
use Rattle.ps_lattice.proofs.choice.options_of.Given as goal

-- bit k for each option k with such a pair so far
abbrev pub invariant-loop-i : goal.invariant-loop-i
invariant-loop-i l = record {
  within : l.i ≤ length l.pairs;
  bits : (k : ℕ) → k < OPTIONS → bit_at l.options k ≡ cond (list_any (is_live k) (take l.i l.pairs)) 1 0;
}

abbrev pub decreases-loop-i : goal.decreases-loop-i
decreases-loop-i l = length l.pairs - l.i
