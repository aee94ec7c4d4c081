use Rattle.std.proofs.Common.{◌∙◌, sym}
use Rattle.ps_formula.proofs.OrderByText.{tree_cmp-texts}
use Rattle.ps_formula.proofs.order.FormulaOrd.cmp.Goals as goal

pub returns : goal.returns
returns c =
    c.cmp.ensures ∙ sym (tree_cmp-texts c.args.self.now c.args.other.now c.text.result.now c.text-2.result.now
    c.text.ensures.canonical c.text-2.ensures.canonical c.text.ensures.has_tree c.text-2.ensures.has_tree)
