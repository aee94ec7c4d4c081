use Rattle.std.proofs.Common.{◌≡◌, drop, fold}
use Rattle.ps_face.specs.Published.{MayShow}
use Rattle.ps_face.specs.Seen.{turned}
use Rattle.ps_face.proofs.writer.queue.Given as goal

abbrev pub invariant-fills : goal.invariant-fills
invariant-fills g l =
    (l.operation ≡ l.initial.operation)
    × MayShow g.L.Named.opening g.L.Named.book l.copies.desk.shown.value (drop l.copies.behind l.copies.log.items)
    × (fold turned l.copies.desk.shown.value (drop l.copies.behind l.copies.log.items)
    ≡ fold turned l.initial.copies.desk.shown.value (drop l.initial.copies.behind l.initial.copies.log.items))

abbrev pub decreases-fills : goal.decreases-fills
decreases-fills g l = l.tries.left
