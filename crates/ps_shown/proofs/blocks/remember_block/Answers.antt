use Rattle.ps_shown.proofs.BlockLemmas.{remembered_more}
use Rattle.ps_shown.proofs.blocks.remember_block.Goals as goal

pub returns-then-is_none-clause-remembered : goal.returns-then-is_none-clause-remembered
returns-then-is_none-clause-remembered c =
    remembered_more c.args.kept.now c.args.sums.now.items c.reach.new.sums.items c.args.block c.walk.result
    c.requires.remembered c.reach.ensures.same c.reach.ensures.reached c.walk.ensures
