use Rattle.ps_lines.proofs.IncomingLemmas.{reading_first, turn_line, turn_long, turn_part}
use Rattle.ps_lines.proofs.incoming.Incoming.read_line.Goals as goal

pub pieces-init : goal.pieces-init
pieces-init g c =
    reading_first g.S.Source.remaining g.S.Source.left g.S.Source.failures c.args.self.now c.requires.ready

pub pieces-preserved : goal.pieces-preserved
pieces-preserved g c =
    turn_part g.S.Source.remaining g.S.Source.left g.S.Source.failures c.args.self.now c.pieces.self c.fill.new.self
    c.take_in.new.self c.pieces.invariant c.fill.ensures.same c.fill.ensures.lines c.in-Ok-true.ensures.calm
    c.fill.ensures.falls c.in-None.ensures.fed c.take_in.ensures.source c.take_in.ensures.falls

pub returns-in-Full-clause-one : goal.returns-in-Full-clause-one
returns-in-Full-clause-one g c =
    (turn_line g.S.Source.remaining g.S.Source.left g.S.Source.failures c.args.self.now c.pieces.self c.fill.new.self
    c.take_in.new.self c.pieces.invariant c.fill.ensures.same c.fill.ensures.lines c.in-Ok-true.ensures.calm
    c.fill.ensures.falls c.in-Full.ensures.fed).0

pub returns-in-Full-clause-read : goal.returns-in-Full-clause-read
returns-in-Full-clause-read g c =
    (turn_line g.S.Source.remaining g.S.Source.left g.S.Source.failures c.args.self.now c.pieces.self c.fill.new.self
    c.take_in.new.self c.pieces.invariant c.fill.ensures.same c.fill.ensures.lines c.in-Ok-true.ensures.calm
    c.fill.ensures.falls c.in-Full.ensures.fed).1

pub returns-in-TooLong-clause-taken : goal.returns-in-TooLong-clause-taken
returns-in-TooLong-clause-taken g c =
    turn_long g.S.Source.remaining g.S.Source.left g.S.Source.failures c.args.self.now c.pieces.self c.fill.new.self
    c.take_in.new.self c.pieces.invariant c.fill.ensures.same c.fill.ensures.lines c.in-Ok-true.ensures.calm
    c.fill.ensures.falls c.in-TooLong.ensures.fed
