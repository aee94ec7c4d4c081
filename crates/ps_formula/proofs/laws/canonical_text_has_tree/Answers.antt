use Rattle.ps_formula.proofs.Texts.{canonical_text_has_tree}
use Rattle.ps_formula.proofs.laws.canonical_text_has_tree.Goals as goal

pub returns : goal.returns
returns c = canonical_text_has_tree
