use Rattle.ps_delta.specs.State.{state_at}
use Rattle.ps_squash.specs.Inside.{sum_of}
use Rattle.ps_squash.proofs.StandsLemmas.{line_fails, line_stands}
use Rattle.ps_squash.proofs.intake.Intake.turn.Goals as goal

pub returns-in-Err-clause-faulty : goal.returns-in-Err-clause-faulty
returns-in-Err-clause-faulty c = λ number is asked read s.
    line_fails asked read c.args.self.now.session c.feed-fed.new.self c.args.self.now.told
    (sum_of (state_at c.args.self.now.taken.state) c.args.self.now.taken.still) c.args.self.now.ended number c.args.piece.now c.feed-fed.result.taken
    c.feed-fed.result.line c.in_default.not-None c.feed-fed.ensures.fed
    (c.in-Err.ensures.faulty number is) s

pub returns-in-Ok-clause-stands : goal.returns-in-Ok-clause-stands
returns-in-Ok-clause-stands c = λ asked read s. rw (c.in-Ok.ensures.session)
    (line_stands asked read c.args.self.now.session c.feed-fed.new.self c.args.self.now.told
    (sum_of (state_at c.args.self.now.taken.state) c.args.self.now.taken.still) c.args.self.now.ended _ _ _ _ c.feed-fed.result.line c.in_default.not-None
    c.feed-fed.ensures.fed c.in-Ok.ensures.joined
    c.in-Ok.ensures.counted s)
