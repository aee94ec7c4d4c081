use Rattle.ps_desk.proofs.SeatLemmas.{seat_answers}
use Rattle.ps_desk.proofs.seat.SeatBoardMeter.calls_answer_lines.Goals as goal

pub returns : goal.returns
returns g c = seat_answers g.L.DeskName.replica g.L.Named.opening
