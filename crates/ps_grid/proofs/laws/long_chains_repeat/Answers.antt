use Rattle.ps_grid.specs.declared.size.TheConstants.{CELLS}
use Rattle.ps_grid.proofs.ChainLemmas.{pigeonhole, long_chain_repeats}
use Rattle.ps_grid.proofs.laws.long_chains_repeat.Goals as goal

pub returns-clause-lists : goal.returns-clause-lists
returns-clause-lists c = pigeonhole CELLS

pub returns-clause-chains : goal.returns-clause-chains
returns-clause-chains c = λ refers below. long_chain_repeats refers CELLS below
