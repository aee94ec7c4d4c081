use Rattle.std.proofs.Common.{◌≡◌, map, take}
use Rattle.ps_face.specs.Values.{valued}
use Rattle.checks_sheet.proofs.face.keep_all.Given as goal

abbrev pub invariant-loop-cell : goal.invariant-loop-cell
invariant-loop-cell l = map valued l.kept.items ≡ take l.cell-index l.changes
