use Rattle.std.proofs.Common.{arith}
use Rattle.ps_delta.proofs.delta.Delta.of_one.Goals as goal

pub returns-then-is_empty : goal.returns-then-is_empty
returns-then-is_empty c = λ delta. delta.none_empty 0 (c.args.cell, c.args.state) (omega arith)
    (c.is_empty.ensures.0 c.if-is_empty.true)
