use Rattle.std.proofs.Common.{◌≡◌, map, take}
use Rattle.ps_shown.specs.Shown.{shown_at}
use Rattle.ps_face.specs.Values.{valued}
use Rattle.ps_desk.specs.Patches.{shown_of}
use Rattle.ps_desk.proofs.patch.copy_shown.Given as goal

abbrev pub invariant-loop-cell : goal.invariant-loop-cell
invariant-loop-cell l = map valued l.copied.items ≡ map (shown_of (shown_at l.shown)) (take l.cell-index l.cells)
