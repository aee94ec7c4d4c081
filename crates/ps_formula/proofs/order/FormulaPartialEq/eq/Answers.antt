use Rattle.std.proofs.Common.{◌∙◌, sym, ap}
use Rattle.std.proofs.lemmas.Map.Text.{is_eq-slice_cmp}
use Rattle.std.specs.Ordering.{is_eq}
use Rattle.ps_formula.proofs.OrderByText.{tree_cmp-texts}
use Rattle.ps_formula.proofs.order.FormulaPartialEq.eq.Goals as goal

pub returns : goal.returns
returns c =
    c.eq.ensures ∙ sym (is_eq-slice_cmp c.text.result.now c.text-2.result.now)
    ∙ ap is_eq (sym (tree_cmp-texts c.args.self.now c.args.other.now c.text.result.now c.text-2.result.now
    c.text.ensures.canonical c.text-2.ensures.canonical c.text.ensures.has_tree c.text-2.ensures.has_tree))
