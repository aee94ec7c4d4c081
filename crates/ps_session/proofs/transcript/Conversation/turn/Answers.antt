use Rattle.std.proofs.Common.{◌+◌, ℕ, Ok, Err, take}
use Rattle.std.proofs.lemmas.Result.{err_from_is_err_and}
use Rattle.ps_grid.specs.declared.refusal.Refusal.TheVariants as refusals
use Rattle.ps_lines.specs.Streams.{Lines}
use Rattle.ps_lines.specs.Replies.{refusal_text}
use Rattle.ps_session.proofs.HoldsLemmas.{handled_full}
use Rattle.ps_session.proofs.OnePieceMore.{whole_cut, whole_stands}
use Rattle.ps_session.proofs.transcript.Conversation.turn.Goals as goal

pub returns-in_err-answer_line-clause-cut : goal.returns-in_err-answer_line-clause-cut
returns-in_err-answer_line-clause-cut g c =
    let p = err_from_is_err_and c.from_residual.result c.from_residual.ensures.1 in
    let line = take c.in-Some.place c.args.piece.now in
    let contents = g.D.Delivery.contents c.args.sink.now in
    let after = g.D.Delivery.contents c.answer_line.new.sink in
    rw (p.1) (λ first written base read s. whole_cut (Lines g.B.Board.answers) first written base read
    c.args.board.now c.answer_line.new.board c.args.self.now.session contents after c.args.self.now.answered
    c.args.piece.now (c.in-Some.place + 1) line (c.in-Some.ensures.fed c.in-Some.ensures.none_held)
    (λ raw is. handled_full (refusal_text refusals.Line) g.B.Board.answers c.args.board.now
    c.answer_line.new.board contents after c.args.self.now.answered 0 (Err c.in_err-answer_line.field-0) raw line is
    (rw c.trimmed.ensures at c.in_err-answer_line.ensures.replied)) s)

pub returns-clause-stands : goal.returns-clause-stands
returns-clause-stands g c =
    let line = take c.in-Some.place c.args.piece.now in
    let contents = g.D.Delivery.contents c.args.sink.now in
    let after = g.D.Delivery.contents c.answer_line.new.sink in
    λ first written base read s. whole_stands (Lines g.B.Board.answers) first written base read
    c.args.board.now c.answer_line.new.board c.args.self.now.session contents after c.args.self.now.answered
    c.answer_line.new.answered (take (c.in-Some.place + 1) c.args.piece.now) line c.in-Some.ensures.none_held
    (c.in-Some.ensures.fed c.in-Some.ensures.none_held)
    (λ raw is. handled_full {E = ℕ} (refusal_text refusals.Line) g.B.Board.answers c.args.board.now
    c.answer_line.new.board contents after c.args.self.now.answered c.answer_line.new.answered
    (Ok c.in_ok-answer_line.field-0) raw line is (rw c.trimmed.ensures at c.in_ok-answer_line.ensures.replied)) s
