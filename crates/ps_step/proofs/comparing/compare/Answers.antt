use Rattle.ps_step.proofs.PullLemmas.{asked_nothing}
use Rattle.ps_step.proofs.comparing.compare.Goals as goal

pub returns-in-Err-clause-to_asked : goal.returns-in-Err-clause-to_asked
returns-in-Err-clause-to_asked g c = asked_nothing c.args.to.now
