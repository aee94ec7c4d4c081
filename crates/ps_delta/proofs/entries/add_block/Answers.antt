use Rattle.std.proofs.Common.{◌+◌, ◌*◌, arith}
use Rattle.ps_delta.specs.State.{state_at}
use Rattle.ps_delta.specs.declared.block.TheConstants.{BLOCK}
use Rattle.ps_delta.proofs.FirstLemmas.{first_over, unmade_block}
use Rattle.ps_delta.proofs.entries.add_block.Goals as goal

pub returns-then-is_unmade-clause-more : goal.returns-then-is_unmade-clause-more
returns-then-is_unmade-clause-more c =
    let block = c.index-blocks-index in
    first_over (state_at c.args.grid.now) (c.args.index * BLOCK) _ c.requires.before ((c.args.index + 1) * BLOCK)
    (omega arith)
    (λ k from to. unmade_block c.args.grid.now c.blocks-2.result.now c.args.index k block.result c.blocks-2.ensures.same
    c.blocks-2.ensures.all c.requires.in_grid block.is (c.is_unmade.ensures.0 c.if-is_unmade.true) from to)
