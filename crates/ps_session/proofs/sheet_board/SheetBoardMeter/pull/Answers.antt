use Rattle.ps_session.proofs.AnswerLemmas.{sheet_pulls}
use Rattle.ps_session.proofs.sheet_board.SheetBoardMeter.pull.Goals as goal

pub returns-clause-pulled : goal.returns-clause-pulled
returns-clause-pulled g c =
    let told = c.deltas_after.ensures in
    sheet_pulls (λ v. v.items) c.history.result.now c.args.self.now c.args.from c.args.most
    c.deltas_after.result c.history.ensures.history told.deltas told.above told.memory told.refused
