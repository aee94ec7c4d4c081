use Rattle.std.proofs.Common.{arith}
use Rattle.ps_eval.proofs.RangeItems.{few_numbers}
use Rattle.ps_eval.proofs.tree.items_of_range.Goals as goal

pub returns-clause-count : goal.returns-clause-count
returns-clause-count g c =
    let few = few_numbers (g.K.Look.value_at c.args.look.now) c.args.rect c.area.ensures.in_grid in
    omega (arith, few, c.summary.ensures.counted)
