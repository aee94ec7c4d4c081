use Rattle.std.proofs.Common.{inr, arith}
use Rattle.ps_index.proofs.KeysOnTheWay.{divided_less}
use Rattle.ps_index.proofs.column.lowest_with.Goals as goal

pub returns-then-span-clause-level : goal.returns-then-span-clause-level
returns-then-span-clause-level c = inr (rw (← c.requires.key)
    (divided_less c.level.result c.min.result c.args.key (omega (arith, c.min.ensures)) c.level.ensures.divides))
