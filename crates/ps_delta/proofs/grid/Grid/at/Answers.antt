use Rattle.ps_delta.proofs.BlockLemmas.{block_within, read_is, state_at-past}
use Rattle.ps_delta.proofs.grid.Grid.at.Goals as goal

pub returns-clause-value : goal.returns-clause-value
returns-clause-value c =
    let within = block_within _ _ c.self.invariant.0 c.index-index.ensures.in_grid in
    rw (← c.self.view_is, ← c.index-index.ensures.index)
    (read_is _ _ _ _ _ within c.index.ensures c.self.invariant.1 c.at.ensures)

pub returns-clause-in_grid : goal.returns-clause-in_grid
returns-clause-in_grid c b h = rw (← c.self.view_is) (state_at-past _ b c.self.invariant.0 h)
