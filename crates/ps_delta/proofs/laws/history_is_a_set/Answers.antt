use Rattle.ps_delta.proofs.HistoryLemmas.{by_set}
use Rattle.ps_delta.proofs.laws.history_is_a_set.Goals as goal

pub returns : goal.returns
returns c = by_set
