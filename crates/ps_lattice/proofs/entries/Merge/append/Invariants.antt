use Rattle.std.proofs.Common.{◌≡◌, ◌++◌, take}
use Rattle.ps_lattice.proofs.entries.Merge.append.Given as goal

abbrev pub invariant-loop-entry : goal.invariant-loop-entry
invariant-loop-entry g l = l.list.items ≡ l.initial.list.items ++ take l.entry-index l.entries
