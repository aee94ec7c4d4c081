use Rattle.ps_cells.proofs.SettledChanges.{outside_shows_the_same}
use Rattle.ps_sheet.proofs.laws.cells_outside_show_the_same.Goals as goal

pub returns : goal.returns
returns c = outside_shows_the_same
