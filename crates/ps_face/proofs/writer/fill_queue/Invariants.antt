use Rattle.std.proofs.Common.{◌≡◌, drop, fold}
use Rattle.ps_face.specs.Seen.{turned}
use Rattle.ps_face.proofs.writer.fill_queue.Given as goal

abbrev pub invariant-fills : goal.invariant-fills
invariant-fills g l =
    (l.copies.desk ≡ l.initial.copies.desk)
    × (fold turned l.initial.copies.desk.shown.value (drop l.copies.behind l.copies.log.items)
    ≡ l.initial.copies.desk.shown.value)
