use Rattle.std.proofs.Common.{◌*◌, ◌≤◌, map, take}
use Rattle.ps_grid.specs.declared.size.TheConstants.{CELLS}
use Rattle.ps_formula.specs.Tree.{in_row}
use Rattle.ps_formula.specs.TreeOf.{item_of}
use Rattle.ps_eval.specs.Value.{items_of, values_of}
use Rattle.ps_eval.specs.Summarized.{Judges, SummarizesArguments}
use Rattle.ps_eval.proofs.tree.+numbers.Given as goal

abbrev pub invariant-operands-loop-argument : goal.invariant-operands-loop-argument
invariant-operands-loop-argument g l =
    Judges (values_of (in_row (map item_of (take l.argument-index l.arguments))) (g.K.Look.value_at l.look)) l.truths

abbrev pub invariant-items-loop-argument : goal.invariant-items-loop-argument
invariant-items-loop-argument g l =
    SummarizesArguments
    (items_of (in_row (map item_of (take l.argument-index l.arguments))) (g.K.Look.value_at l.look)) l.summary
    × (l.summary.count ≤ l.argument-index * CELLS)
