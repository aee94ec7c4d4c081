use Rattle.std.proofs.Common.{◌≡◌, take}
use Rattle.ps_squash.proofs.lines.delta_of.Given as goal

abbrev pub invariant-loop-entry : goal.invariant-loop-entry
invariant-loop-entry l = l.cells.items ≡ take l.entry-index l.entries
