use Rattle.ps_delta.proofs.HistoryLemmas.{of_states}
use Rattle.ps_delta.proofs.laws.states_join.Goals as goal

pub returns : goal.returns
returns c = of_states
