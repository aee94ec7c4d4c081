use Rattle.std.proofs.Common.{◌≡◌, drop, max}
use Rattle.ps_lattice.specs.Choice.{last_of}
use Rattle.ps_lattice.proofs.choice.last_of.Given as goal

-- the greatest so far and the greatest of the rest give the greatest of all
abbrev pub invariant-loop-pair : goal.invariant-loop-pair
invariant-loop-pair l = max l.last (last_of l.replica (drop l.pair-index l.pairs)) ≡ last_of l.replica l.pairs
