use Rattle.ps_grid.proofs.RegionLemmas.{same_region}
use Rattle.ps_region.proofs.laws.old_and_new_give_one_region.Goals as goal

pub returns : goal.returns
returns c = λ old new touched same x. same_region old new touched same x
