use Rattle.ps_csv.proofs.EntriesComeBack.{entries_come_back}
use Rattle.ps_csv.proofs.laws.entries_come_back.Goals as goal

pub returns : goal.returns
returns c = entries_come_back
