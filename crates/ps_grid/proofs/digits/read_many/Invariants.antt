use Rattle.std.proofs.Common.{◌^◌, ◌<◌}
use Rattle.ps_grid.proofs.DigitLemmas.{Writes}
use Rattle.ps_grid.proofs.digits.read_many.Given as goal

-- the digits so far write the number
abbrev pub invariant-loop-digit : goal.invariant-loop-digit
invariant-loop-digit l = Writes l.digits l.digit-index l.number × (l.number < 2 ^ 64)
