use Rattle.ps_eval.proofs.Agreement.{ev-agrees}
use Rattle.ps_eval.proofs.laws.depends_on_references_alone.Goals as goal

pub returns : goal.returns
returns c = ev-agrees
