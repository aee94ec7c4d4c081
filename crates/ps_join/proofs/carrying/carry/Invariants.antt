use Rattle.std.proofs.Common.{◌≡◌, ◌≤◌}
use Rattle.ps_join.specs.Joins.{IsReached, Later}
use Rattle.ps_join.proofs.carrying.carry.Given as goal

abbrev pub invariant-pulls : goal.invariant-pulls
invariant-pulls g l = record {
  reached : Later l.fn.start l.fn.from l.fn.to
      (λ waits whole from0 to0. IsReached waits whole l.at from0 l.from to0 l.to);
  first : l.from.failures ≡ l.fn.from.failures;
  second : l.to.failures ≡ l.fn.to.failures;
  falls : l.from.left ≤ l.fn.from.left;
  keeps : l.to.left ≤ l.fn.to.left;
}

abbrev pub decreases-pulls : goal.decreases-pulls
decreases-pulls g l = l.from.left
