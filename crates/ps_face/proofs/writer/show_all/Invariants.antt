use Rattle.std.proofs.Common.{◌≡◌, drop}
use Rattle.ps_face.proofs.writer.show_all.Given as goal

abbrev pub invariant-shows : goal.invariant-shows
invariant-shows g l =
    (l.copies.desk.shown.value ≡ l.initial.copies.desk.shown.value)
    × (drop l.copies.behind l.copies.log.items ≡ drop l.initial.copies.behind l.initial.copies.log.items)

abbrev pub decreases-shows : goal.decreases-shows
decreases-shows g l = l.tries.left
