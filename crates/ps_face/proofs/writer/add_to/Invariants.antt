use Rattle.std.proofs.Common.{◌≡◌}
use Rattle.ps_face.proofs.writer.add_to.Given as goal

abbrev pub invariant-adds : goal.invariant-adds
invariant-adds g l = l.front ≡ l.initial.front

abbrev pub decreases-adds : goal.decreases-adds
decreases-adds g l = l.tries.left
