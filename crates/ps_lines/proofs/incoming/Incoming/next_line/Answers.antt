use Rattle.ps_lines.specs.Incomings.{IsNextLine, due}
use Rattle.ps_lines.proofs.IncomingLemmas.{reading_first, turn_next, turn_next_long, turn_part}
use Rattle.std.proofs.Common.{subst, sym}
use Rattle.ps_lines.proofs.incoming.Incoming.next_line.Goals as goal

pub pieces-init : goal.pieces-init
pieces-init g c =
    reading_first g.S.Source.remaining g.S.Source.left g.S.Source.failures c.args.self.now c.requires.ready

pub pieces-preserved : goal.pieces-preserved
pieces-preserved g c =
    turn_part g.S.Source.remaining g.S.Source.left g.S.Source.failures c.args.self.now c.pieces.self c.fill.new.self
    c.take_in.new.self c.pieces.invariant c.fill.ensures.same c.fill.ensures.lines c.in-Ok.ensures.calm
    c.fill.ensures.falls c.in-None.ensures.fed c.take_in.ensures.source c.take_in.ensures.falls

pub returns-in-Full-clause-next : goal.returns-in-Full-clause-next
returns-in-Full-clause-next g c =
    subst (IsNextLine (due g.S.Source.remaining c.args.self.now) (due g.S.Source.remaining c.take_in.new.self)
    c.take_in.new.self.lines.line) (sym c.inside.ensures)
    (turn_next g.S.Source.remaining g.S.Source.left g.S.Source.failures c.args.self.now c.pieces.self c.fill.new.self
    c.take_in.new.self c.pieces.invariant c.fill.ensures.same c.fill.ensures.lines c.in-Ok.ensures.calm
    c.fill.ensures.falls c.in-Full.ensures.fed)

pub returns-in-TooLong-clause-next : goal.returns-in-TooLong-clause-next
returns-in-TooLong-clause-next g c =
    subst (IsNextLine (due g.S.Source.remaining c.args.self.now) (due g.S.Source.remaining c.take_in.new.self)
    c.take_in.new.self.lines.line) (sym c.inside-in-TooLong.ensures)
    (turn_next_long g.S.Source.remaining g.S.Source.left g.S.Source.failures c.args.self.now c.pieces.self
    c.fill.new.self c.take_in.new.self c.pieces.invariant c.fill.ensures.same c.fill.ensures.lines c.in-Ok.ensures.calm
    c.fill.ensures.falls c.in-TooLong.ensures.fed c.take_in.new.self.lines.line)
