use Rattle.std.proofs.Common.{◌<◌, ℕ, Ok, Err, arith, length}
use Rattle.std.proofs.lemmas.Grind.{common_steps}
use Rattle.ps_session.proofs.HoldsLemmas.{replied_line}
use Rattle.ps_session.proofs.transcript.answer_line.Goals as goal

pub returns-in-Err-clause-replied : goal.returns-in-Err-clause-replied
returns-in-Err-clause-replied g c =
    let some : 0 < length c.args.line.now = grind (arith, common_steps, c.if-is_empty.ensures) in
    let told = c.in-Err.ensures.told in
    replied_line g.B.Board.answers c.args.board.now c.answer.new.board c.args.line.now told.0
    (g.D.Delivery.contents c.args.sink.now) (g.D.Delivery.contents c.answer.new.sink) c.args.answered.now 0
    (Err c.in-Err.failed) some told.1 told.2 tt

pub returns-clause-replied : goal.returns-clause-replied
returns-clause-replied g c =
    let some : 0 < length c.args.line.now = grind (arith, common_steps, c.if-is_empty.ensures) in
    let told = c.in-Ok.ensures.told in
    replied_line {E = ℕ} g.B.Board.answers c.args.board.now c.answer.new.board c.args.line.now told.0
    (g.D.Delivery.contents c.args.sink.now) (g.D.Delivery.contents c.answer.new.sink) c.args.answered.now
    c.saturating_add.result (Ok c.in-Ok.field-0) some told.1 told.2 c.saturating_add.ensures
