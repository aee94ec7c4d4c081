use Rattle.ps_cells.proofs.SettledValues.{settled_at_most_once}
use Rattle.ps_sheet.proofs.laws.settled_at_most_once.Goals as goal

pub returns : goal.returns
returns c = settled_at_most_once
