use Rattle.ps_squash.proofs.StandsLemmas.{none_stand}
use Rattle.ps_squash.proofs.intake.begin.Goals as goal

pub returns-clause-stands : goal.returns-clause-stands
returns-clause-stands c = none_stand c.args.selection _ _ c.in_ok-session.ensures c.in-Ok.ensures.before
