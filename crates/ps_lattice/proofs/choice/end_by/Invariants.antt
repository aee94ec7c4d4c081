use Rattle.std.proofs.Common.{◌-◌, length}
use Rattle.ps_lattice.specs.Inside.Places.{IsStretch}
use Rattle.ps_lattice.proofs.choice.end_by.Given as goal

-- the pairs so far have the option
abbrev pub invariant-loop-end : goal.invariant-loop-end
invariant-loop-end l = IsStretch l.pairs l.from l.end

abbrev pub decreases-loop-end : goal.decreases-loop-end
decreases-loop-end l = length l.pairs - l.end
