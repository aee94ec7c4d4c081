use Rattle.ps_grid.proofs.DigitLemmas.{Writes}
use Rattle.ps_grid.proofs.digits.read_few.Given as goal

-- the digits so far write the number
abbrev pub invariant-loop-digit : goal.invariant-loop-digit
invariant-loop-digit l = Writes l.digits l.digit-index l.number
