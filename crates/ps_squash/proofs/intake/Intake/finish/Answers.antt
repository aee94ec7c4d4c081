use Rattle.std.proofs.Common.{subst}
use Rattle.ps_delta.specs.State.{state_at}
use Rattle.ps_lines.specs.Feeding.{Ends}
use Rattle.ps_squash.specs.Inside.{sum_of}
use Rattle.ps_squash.proofs.StandsLemmas.{last_fails, last_joins, none_remains}
use Rattle.ps_squash.proofs.intake.Intake.finish.Goals as goal

pub returns-in-Ok-clause-together : goal.returns-in-Ok-clause-together
returns-in-Ok-clause-together c = λ asked read s.
    last_joins asked read c.args.self.now.session c.end.new.self c.args.self.now.told
    (sum_of (state_at c.args.self.now.taken.state) c.args.self.now.taken.still) c.args.self.now.ended _ _ c.end.result c.in_default.not-None c.end.ensures
    c.in-Ok.ensures.joined s

pub returns-in-Err-clause-faulty : goal.returns-in-Err-clause-faulty
returns-in-Err-clause-faulty c = λ number is asked read s.
    last_fails asked read c.args.self.now.session c.end.new.self c.args.self.now.told
    (sum_of (state_at c.args.self.now.taken.state) c.args.self.now.taken.still) c.args.self.now.ended number c.end.result c.in_default.not-None c.end.ensures
    (c.in-Err.ensures.faulty number is) s

pub returns-in-None-clause-together : goal.returns-in-None-clause-together
returns-in-None-clause-together c = λ asked read s.
    none_remains asked read c.args.self.now.session c.end.new.self c.args.self.now.told
    (sum_of (state_at c.args.self.now.taken.state) c.args.self.now.taken.still) c.args.self.now.ended
    (subst (Ends c.args.self.now.session c.end.new.self) c.in-None.is c.end.ensures) s
