use Rattle.std.proofs.Common.{◌≡◌, take}
use Rattle.ps_lines.proofs.history.copy_deltas.Given as goal

abbrev pub invariant-deltas : goal.invariant-deltas
invariant-deltas l = l.copies.items ≡ take l.delta-index l.deltas
