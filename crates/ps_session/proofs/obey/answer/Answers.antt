use Rattle.std.proofs.Common.{Err, Ok, refl}
use Rattle.ps_lines.specs.Replies.{refusal_text}
use Rattle.ps_session.proofs.HoldsLemmas.{told_by}
use Rattle.ps_session.proofs.obey.answer.Goals as goal

pub returns-in-Ok-clause-told : goal.returns-in-Ok-clause-told
returns-in-Ok-clause-told g c =
    let told = c.obey.ensures.told in
    told_by g.B.Board.calls g.B.Board.answers c.calls_answer_lines.ensures c.args.board.now c.obey.new.board
    c.args.line.now told.0 (Ok c.in-Ok.command) (g.D.Delivery.contents c.args.sink.now)
    (g.D.Delivery.contents c.obey.new.sink) c.obey.result c.in-Ok.ensures.read told.1 told.2

pub returns-in-Err-clause-told : goal.returns-in-Err-clause-told
returns-in-Err-clause-told g c =
    told_by g.B.Board.calls g.B.Board.answers c.calls_answer_lines.ensures c.args.board.now c.args.board.now
    c.args.line.now (refusal_text c.in-Err.refusal) (Err c.in-Err.refusal) (g.D.Delivery.contents c.args.sink.now)
    (g.D.Delivery.contents c.refuse.new.sink) c.refuse.result c.in-Err.ensures.read (refl, refl) c.refuse.ensures.sent
