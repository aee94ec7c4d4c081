use Rattle.ps_lines.specs.Inside.Incomings.{IsReading}
use Rattle.ps_lines.specs.Incomings.{lines_left}
use Rattle.ps_lines.proofs.incoming.Incoming.next_line.Given as goal

abbrev pub invariant-pieces : goal.invariant-pieces
invariant-pieces g l =
    IsReading g.S.Source.remaining g.S.Source.left g.S.Source.failures l.fn.self l.self

abbrev pub decreases-pieces : goal.decreases-pieces
decreases-pieces g l = lines_left g.S.Source.left l.self
