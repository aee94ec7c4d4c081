use Rattle.ps_lattice.proofs.WordLemmas.{by_maximum}
use Rattle.ps_lattice.proofs.laws.tallies_join_by_maximum.Goals as goal

pub returns : goal.returns
returns c = by_maximum
