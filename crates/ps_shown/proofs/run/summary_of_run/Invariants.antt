use Rattle.std.proofs.Common.{◌≤◌, ◌-◌, length}
use Rattle.ps_shown.specs.Sums.{HasTaken}
use Rattle.ps_shown.proofs.run.summary_of_run.Given as goal

-- the summary is of the cells up to the next one
abbrev pub invariant-walk : goal.invariant-walk
invariant-walk l = HasTaken l.run l.next l.summary × (l.next ≤ length l.run)

abbrev pub decreases-walk : goal.decreases-walk
decreases-walk l = length l.run - l.next
