use Rattle.std.proofs.Common.{◌≡◌, ◌≤◌, ◌-◌, length, drop, max}
use Rattle.ps_lattice.specs.Choice.{last_of}
use Rattle.ps_lattice.proofs.choice.last_by_blocks.Given as goal

-- the greatest so far and the greatest of the rest give the greatest of all
abbrev pub invariant-loop-i : goal.invariant-loop-i
invariant-loop-i l = record {
  within : l.i ≤ length l.pairs;
  so_far : max l.last (last_of l.replica (drop l.i l.pairs)) ≡ last_of l.replica l.pairs;
}

abbrev pub decreases-loop-i : goal.decreases-loop-i
decreases-loop-i l = length l.pairs - l.i
