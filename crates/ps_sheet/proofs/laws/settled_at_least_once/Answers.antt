use Rattle.ps_cells.proofs.SettledExists.{settled_at_least_once}
use Rattle.ps_sheet.proofs.laws.settled_at_least_once.Goals as goal

pub returns : goal.returns
returns c = settled_at_least_once
