use Rattle.ps_lattice.proofs.NewsWordLemmas.{new_by_pair}
use Rattle.ps_lattice.proofs.laws.choices_new_by_pair.Goals as goal

pub returns : goal.returns
returns c = new_by_pair
