use Rattle.ps_delta.proofs.HistoryLemmas.{by_groups}
use Rattle.ps_delta.proofs.laws.groups_join.Goals as goal

pub returns : goal.returns
returns c = by_groups
