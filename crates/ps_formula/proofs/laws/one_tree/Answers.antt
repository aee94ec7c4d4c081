use Rattle.ps_formula.proofs.Texts.{one_tree}
use Rattle.ps_formula.proofs.laws.one_tree.Goals as goal

pub returns : goal.returns
returns c = one_tree
