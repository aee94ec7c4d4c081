use Rattle.std.proofs.Common.{arith}
use Rattle.ps_shown.proofs.blocks.remember_blocks.Goals as goal

pub remember_block-requires-clause-block : goal.remember_block-requires-clause-block
remember_block-requires-clause-block c = omega (arith, c.loop-block-test.true, c.requires.within)

pub remember_block-requires-clause-room : goal.remember_block-requires-clause-room
remember_block-requires-clause-room c =
    omega (
      arith,
      c.loop-block-test.true,
      c.requires.within,
      c.requires.room,
      c.loop-block.invariant.room,
    )
