use Rattle.ps_delta.specs.State.{empty_cell}
use Rattle.std.proofs.Common.{refl}
use Rattle.ps_delta.proofs.BlockLemmas.{block_within, read_is, swap_is}
use Rattle.ps_delta.proofs.grid.Grid.swap.Goals as goal

pub returns-clause-given : goal.returns-clause-given
returns-clause-given c =
    let within = block_within _ _ c.self.invariant.0 c.index-index.ensures.in_grid in
    rw (← c.self.view_is, ← c.index-index.ensures.index)
    (swap_is _ _ _ _ _ within (rw (c.self.view_is, c.index-index.ensures.index) c.requires) c.index_mut.ensures.value
    c.swap.ensures.given)

pub returns-clause-taken : goal.returns-clause-taken
returns-clause-taken c =
    let within = block_within _ _ c.self.invariant.0 c.index-index.ensures.in_grid in
    rw (← c.self.view_is, ← c.index-index.ensures.index)
    (read_is _ _ _ empty_cell _ within c.index_mut.ensures.value refl c.swap.ensures.taken)
