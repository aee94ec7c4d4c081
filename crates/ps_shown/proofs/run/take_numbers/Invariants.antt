use Rattle.std.proofs.Common.{◌≤◌, ◌-◌, length}
use Rattle.ps_shown.specs.Sums.{HasTaken}
use Rattle.ps_shown.proofs.run.take_numbers.Given as goal

abbrev pub invariant-numbers : goal.invariant-numbers
invariant-numbers l = record {
  taken : HasTaken l.run l.next l.summary;
  order : l.from ≤ l.next;
  within : l.next ≤ length l.run;
}

abbrev pub decreases-numbers : goal.decreases-numbers
decreases-numbers l = length l.run - l.next
