use Rattle.ps_sheet.proofs.AcceptedRuns.{accepted_join}
use Rattle.ps_sheet.proofs.laws.accepted_deltas_join.Goals as goal

pub returns : goal.returns
returns c = accepted_join
