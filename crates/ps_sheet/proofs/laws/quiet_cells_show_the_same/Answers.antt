use Rattle.ps_cells.proofs.SettledChanges.{quiet_shows_the_same}
use Rattle.ps_sheet.proofs.laws.quiet_cells_show_the_same.Goals as goal

pub returns : goal.returns
returns c = quiet_shows_the_same
