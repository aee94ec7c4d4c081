use Rattle.ps_delta.proofs.HistoryLemmas.{when_covered}
use Rattle.ps_delta.proofs.laws.covered_changes_nothing.Goals as goal

pub returns : goal.returns
returns c = when_covered
