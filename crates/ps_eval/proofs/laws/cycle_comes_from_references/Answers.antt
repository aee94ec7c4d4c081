use Rattle.ps_eval.proofs.CycleFaults.{ev-cycle}
use Rattle.ps_eval.proofs.laws.cycle_comes_from_references.Goals as goal

pub returns : goal.returns
returns c = ev-cycle
