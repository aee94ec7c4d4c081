use Rattle.ps_grid.specs.declared.refusal.Refusal.TheVariants as refusals
use Rattle.std.proofs.Common.{refl}
use Rattle.ps_lines.specs.Replies.{refusal_text}
use Rattle.ps_session.proofs.HoldsLemmas.{handled_full, handled_long}
use Rattle.ps_session.proofs.transcript.Conversation.close.Goals as goal

pub returns-in-Full-clause-replied : goal.returns-in-Full-clause-replied
returns-in-Full-clause-replied g c = λ raw held.
    handled_full (refusal_text refusals.Line) g.B.Board.answers c.args.board.now c.answer.new.board
    (g.D.Delivery.contents c.args.sink.now) (g.D.Delivery.contents c.answer.new.sink) c.args.self.now.answered
    c.answer.new.self.answered c.answer.result raw c.args.self.now.session.line (rw c.in-Full.is at held)
    c.answer.ensures.replied

pub returns-in-TooLong-clause-replied : goal.returns-in-TooLong-clause-replied
returns-in-TooLong-clause-replied g c = λ raw held.
    handled_long (refusal_text refusals.Line) g.B.Board.answers c.args.board.now c.args.board.now
    (g.D.Delivery.contents c.args.sink.now) (g.D.Delivery.contents c.refuse.new.sink) c.args.self.now.answered
    c.refuse.new.self.answered c.refuse.result raw (rw c.in-TooLong.is at held) refl c.refuse.ensures.sent
    c.refuse.ensures.counted
