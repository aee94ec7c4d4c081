use Rattle.std.proofs.Common.{◌≡◌, ◌≤◌, ◌-◌, ◌++◌, length, take}
use Rattle.ps_lattice.proofs.choice.BoolMerge.append.Given as goal

-- the entries before `from` are appended
abbrev pub invariant-loop-from : goal.invariant-loop-from
invariant-loop-from g l = record {
  within : l.from ≤ length l.entries;
  so_far : l.list.items ≡ l.initial.list.items ++ take l.from l.entries;
}

abbrev pub decreases-loop-from : goal.decreases-loop-from
decreases-loop-from g l = length l.entries - l.from
