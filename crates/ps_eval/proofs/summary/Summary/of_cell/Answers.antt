use Rattle.std.proofs.Common.{[]}
use Rattle.ps_eval.proofs.summary.Summary.of_cell.Goals as goal

pub returns-clause-items : goal.returns-clause-items
returns-clause-items c = c.take_cell.ensures.items [] c.new-summary.ensures
