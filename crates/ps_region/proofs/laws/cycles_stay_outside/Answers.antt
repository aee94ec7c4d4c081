use Rattle.ps_grid.proofs.RegionLemmas.{same_cyclic}
use Rattle.ps_region.proofs.laws.cycles_stay_outside.Goals as goal

pub returns : goal.returns
returns c = λ old new touched same x out. same_cyclic old new touched same x out
