use Rattle.ps_lattice.proofs.WordLemmas.{least}
use Rattle.ps_lattice.proofs.laws.empty_is_least.Goals as goal

pub returns : goal.returns
returns c = least
