use Rattle.std.proofs.Common.{◌≤◌, ◌-◌}
use Rattle.ps_shown.specs.Shown.{shown_at}
use Rattle.ps_shown.proofs.FaultLemmas.{FoundSoFar}
use Rattle.ps_shown.proofs.shown.Shown.first_fault.Given as goal

-- what is found in the columns so far
abbrev pub invariant-search : goal.invariant-search
invariant-search l = FoundSoFar (shown_at l.self) l.rect l.across l.rows l.first × (l.across ≤ l.columns)

abbrev pub decreases-search : goal.decreases-search
decreases-search l = l.columns - l.across
