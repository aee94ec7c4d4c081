use Rattle.std.proofs.Common.{◌≡◌, ℕ, ◌+◌, ◌-◌, ◌<◌, ◌≤◌, min, max, get_or, length}
use Rattle.std.specs.Prelude.{vec_capacity}
use Rattle.ps_index.proofs.counts.extend.Given as goal

-- the list grows up to the row, and what is added is the last count
abbrev pub invariant-loop-ends : goal.invariant-loop-ends
invariant-loop-ends l = record {
  longer : length l.initial.ends.items ≤ length l.ends.items;
  upto : length l.ends.items ≤ max (length l.initial.ends.items) (l.row + 1);
  extended : (j : ℕ) → j < length l.ends.items
      → get_or l.ends.items j 0 ≡ get_or l.initial.ends.items (min j (length l.initial.ends.items - 1)) 0;
  room : vec_capacity l.initial.ends ≤ vec_capacity l.ends;
}

abbrev pub decreases-loop-ends : goal.decreases-loop-ends
decreases-loop-ends l = l.row + 1 - length l.ends.items
