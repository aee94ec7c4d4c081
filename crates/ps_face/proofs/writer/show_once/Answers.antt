use Rattle.ps_face.specs.Seen.{Copy}
use Rattle.ps_face.proofs.Kept.{publishes}
use Rattle.ps_face.proofs.writer.show_once.Goals as goal

pub publish_as-requires : goal.publish_as-requires
publish_as-requires g c next now =
    let h = g.L.Named.opening in
    let b = g.L.Named.book in
    let x : Copy = c.args.copies.desk.shown.value in
    publishes h b _ _ x next (rw now c.requires.later) (rw now c.requires.stands)
