use Rattle.ps_kept.proofs.LawLemmas.{faults_come_after}
use Rattle.ps_kept.proofs.laws.faults_come_after_the_kept.Goals as goal

pub returns : goal.returns
returns c = faults_come_after
