use Rattle.std.proofs.Common.{◌≡◌, true}
use Rattle.ps_join.specs.Joins.{IsJoining, Side}
use Rattle.ps_join.proofs.joining.join.Given as goal

abbrev pub invariant-rounds : goal.invariant-rounds
invariant-rounds g l = record {
  from : Side;
  to : Side;
  joining : IsJoining true l.fn.from l.from l.fn.to l.to from to;
  from_at : from.position ≡ l.at.from;
  to_at : to.position ≡ l.at.to;
  first : l.from.failures ≡ l.fn.from.failures;
  second : l.to.failures ≡ l.fn.to.failures;
}

abbrev pub decreases-rounds : goal.decreases-rounds
decreases-rounds g l = l.from.left
