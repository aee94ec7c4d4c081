use Rattle.ps_delta.proofs.BlockLemmas.{state_at-empty}
use Rattle.ps_delta.proofs.grid.Grid.new.Goals as goal

pub returns-clause-empty : goal.returns-clause-empty
returns-clause-empty c = state_at-empty _ c.loop.invariant.1
