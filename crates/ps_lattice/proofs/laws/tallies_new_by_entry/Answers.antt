use Rattle.ps_lattice.proofs.NewsWordLemmas.{new_by_entry}
use Rattle.ps_lattice.proofs.laws.tallies_new_by_entry.Goals as goal

pub returns : goal.returns
returns c = new_by_entry
