use Rattle.ps_content.proofs.OrderLemmas.{content_cmp-parts}
use Rattle.ps_content.proofs.order.ContentOrd.cmp.Goals as goal

pub returns : goal.returns
returns c =
    rw (c.then-3.ensures, c.then-2.ensures, c.then.ensures)
    (content_cmp-parts c.args.self.now c.args.other.now c.formula.result c.formula-2.result
    c.kind_place.ensures c.kind_place-2.ensures c.cmp-kinds.ensures
    c.cmp_numbers-numbers.ensures
    c.text.ensures c.text-2.ensures c.cmp-texts.ensures
    c.formula.ensures c.formula-2.ensures c.cmp-formulas.ensures)
