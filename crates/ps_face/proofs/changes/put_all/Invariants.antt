use Rattle.std.proofs.Common.{◌≡◌, map}
use Rattle.ps_shown.specs.Shown.{shown_at}
use Rattle.ps_face.specs.Values.{overlaid, valued}
use Rattle.ps_face.proofs.changes.put_all.Given as goal

abbrev pub invariant-loop-cell : goal.invariant-loop-cell
invariant-loop-cell l = shown_at l.shown ≡ overlaid (shown_at l.initial.shown) (map valued l.yielded)
