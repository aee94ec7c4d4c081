use Rattle.std.proofs.Common.{◌≡◌, ◌<◌, ◌/◌, length, arith}
use Rattle.ps_delta.specs.declared.block.TheConstants.{BLOCK}
use Rattle.ps_delta.specs.declared.grid.TheConstants.{BLOCKS}
use Rattle.ps_delta.proofs.BlockLemmas.{filled_is}
use Rattle.ps_delta.proofs.grid.Grid.make_place.Goals as goal

pub returns-clause-same : goal.returns-clause-same
returns-clause-same c =
    let size : length c.self.inside.blocks.items ≡ BLOCKS = c.self.invariant.0 in
    let within : c.index.result / BLOCK < length c.self.inside.blocks.items = omega
    (arith, size, c.index.ensures.in_grid) in
    rw (← c.self.view_is) (filled_is _ _ _ _ within c.index_mut.ensures.value c.fill.ensures.same)
