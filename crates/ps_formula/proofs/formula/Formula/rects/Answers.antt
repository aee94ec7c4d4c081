use Rattle.std.proofs.Common.{rules, ◌∙◌, ap}
use Rattle.ps_formula.proofs.CellsCovered.{is_covered, is_covered-rects_of}
use Rattle.ps_formula.proofs.formula.Formula.rects.Goals as goal

pub returns-clause-covered : goal.returns-clause-covered
returns-clause-covered c = λ k. ap (λ rs. is_covered rs k) (search rules) ∙ is_covered-rects_of c.args.self.now k
