use Rattle.ps_lines.proofs.PullsReturnDeltas.{pulls_return_deltas}
use Rattle.ps_lines.proofs.laws.pulls_return_deltas.Goals as goal

pub returns : goal.returns
returns c = pulls_return_deltas
