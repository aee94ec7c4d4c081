use Rattle.ps_wire.proofs.SentLemmas.{sent_text}
use Rattle.ps_wire.proofs.line.compact_text.Goals as goal

pub returns-in-Ok-clause-text : goal.returns-in-Ok-clause-text
returns-in-Ok-clause-text c =
    let sent = c.in-Ok.ensures.events in
    sent_text c.args.delta.now sent.0 c.in-Ok.text.items sent.1.0 sent.2
