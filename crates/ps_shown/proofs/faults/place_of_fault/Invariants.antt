use Rattle.std.proofs.Common.{◌≡◌, ◌≤◌, ◌<◌, ◌-◌, ℕ, None}
use Rattle.ps_shown.specs.Faults.{fault_kept}
use Rattle.ps_shown.proofs.faults.place_of_fault.Given as goal

-- no fault is kept at the places so far
abbrev pub invariant-search : goal.invariant-search
invariant-search l = record {
  order : l.from ≤ l.next;
  within : l.next ≤ l.to;
  clean : (j : ℕ) → l.from ≤ j → j < l.next → fault_kept l.kept j ≡ None;
}

abbrev pub decreases-search : goal.decreases-search
decreases-search l = l.to - l.next
