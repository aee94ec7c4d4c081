use Rattle.ps_formula.proofs.OrderByText.{tree_cmp-canon}
use Rattle.ps_formula.proofs.laws.ordered_by_text.Goals as goal

pub returns : goal.returns
returns c = tree_cmp-canon
