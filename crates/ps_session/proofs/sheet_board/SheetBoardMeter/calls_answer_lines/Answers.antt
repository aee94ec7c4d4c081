use Rattle.ps_session.proofs.AnswerLemmas.{sheet_answers}
use Rattle.ps_session.proofs.sheet_board.SheetBoardMeter.calls_answer_lines.Goals as goal

pub returns : goal.returns
returns g c = sheet_answers
