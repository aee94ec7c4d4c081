use Rattle.std.proofs.Common.{ap, drop, ◌∙◌}
use Rattle.std.proofs.lemmas.List.{take_rest}
use Rattle.ps_face.specs.Legal.{history_of}
use Rattle.ps_kept_desk.specs.Records.{RecordView}
use Rattle.ps_kept_desk.proofs.record.Record.finish.Goals as goal

pub add-requires-clause-rest : goal.add-requires-clause-rest
add-requires-clause-rest g c =
    let noted = c.self.inside.noted in
    take_rest c.args.history.now noted
    ∙ ap (drop noted) c.requires.history
    ∙ ap (λ (w : RecordView). drop w.noted (history_of g.L.Named.opening c.args.self.now.seen)) c.self.view_is
