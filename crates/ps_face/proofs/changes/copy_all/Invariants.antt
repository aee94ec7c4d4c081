use Rattle.std.proofs.Common.{◌≡◌, take}
use Rattle.std.specs.Prelude.{vec_capacity, vec_len}
use Rattle.ps_face.proofs.changes.copy_all.Given as goal

abbrev pub invariant-loop-cell : goal.invariant-loop-cell
invariant-loop-cell l =
    (l.to.items ≡ take l.cell-index l.changes) × (vec_len l.to ≡ l.cell-index)
    × (vec_capacity l.to ≡ vec_capacity l.initial.to)
