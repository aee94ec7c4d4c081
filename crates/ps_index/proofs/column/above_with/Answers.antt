use Rattle.std.proofs.Common.{◌+◌, inr, arith}
use Rattle.ps_index.proofs.KeysOnTheWay.{below_higher}
use Rattle.ps_index.proofs.column.above_with.Goals as goal

pub returns-then-span-clause-level : goal.returns-then-span-clause-level
returns-then-span-clause-level c = inr (rw (← c.requires.key)
    (below_higher (c.level.result + 1) c.max.result c.args.key (omega (arith, c.max.ensures)) c.level.ensures.most))
