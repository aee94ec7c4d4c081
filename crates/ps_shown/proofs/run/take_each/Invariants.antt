use Rattle.ps_shown.specs.Sums.{HasTaken}
use Rattle.ps_shown.proofs.run.take_each.Given as goal

abbrev pub invariant-loop-at : goal.invariant-loop-at
invariant-loop-at l = HasTaken l.run l.at l.summary
