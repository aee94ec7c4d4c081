use Rattle.std.proofs.Common.{drop}
use Rattle.ps_face.proofs.Turned.{none_waits}
use Rattle.ps_face.proofs.writer.show_with.Goals as goal

pub queue-requires-clause-waits : goal.queue-requires-clause-waits
queue-requires-clause-waits g c =
    none_waits g.L.Named.opening g.L.Named.book c.args.copies.now.desk.shown.value
    (drop c.args.copies.now.behind c.args.copies.now.log.items) c.requires.stands c.requires.none
