use Rattle.std.proofs.Common.{rules}
use Rattle.ps_desk.proofs.seat.SeatBoardMeter.value.Goals as goal
use Rattle.ps_desk.proofs.seat.SeatBoardMeter.value.Goals.{in-Some, in-None}

pub returns : goal.returns
returns g c = elim c.match-read.branch [
  | in-Some w ↦ search rules
  | in-None w ↦ search rules
]
