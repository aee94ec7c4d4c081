use Rattle.std.proofs.Common.{◌+◌, ◌*◌, arith}
use Rattle.ps_shown.specs.Blocks.{block_items}
use Rattle.ps_shown.specs.declared.blocks.TheConstants.{BLOCK}
use Rattle.ps_shown.proofs.BlockLemmas.{few_between}
use Rattle.ps_shown.proofs.blocks.take_block.Goals as goal

pub join-requires-clause-room_of_other : goal.join-requires-clause-room_of_other
join-requires-clause-room_of_other c =
    let b = c.args.block in
    let is = c.requires.remembered b c.in-Some.known.now c.in-Some.ensures in
    omega (arith, is.counted, few_between c.args.kept.now (b * BLOCK) (b * BLOCK + BLOCK))

pub join-requires-in-None-clause-room_of_other : goal.join-requires-in-None-clause-room_of_other
join-requires-in-None-clause-room_of_other c =
    let b = c.args.block in
    omega (arith, c.walk.ensures.counted, few_between c.args.kept.now (b * BLOCK) (b * BLOCK + BLOCK))

pub returns-in-Some : goal.returns-in-Some
returns-in-Some c =
    (λ items so_far. c.join.ensures.items items (block_items c.args.kept.now c.args.block) so_far
    (c.requires.remembered c.args.block c.in-Some.known.now c.in-Some.ensures))
