use Rattle.ps_region.proofs.ListedLemmas.{listed_refers}
use Rattle.ps_region.proofs.laws.listed_cells_refer.Goals as goal

pub returns : goal.returns
returns c = listed_refers c.args.index.now
