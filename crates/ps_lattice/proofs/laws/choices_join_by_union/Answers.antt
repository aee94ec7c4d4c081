use Rattle.ps_lattice.proofs.WordLemmas.{by_union}
use Rattle.ps_lattice.proofs.laws.choices_join_by_union.Goals as goal

pub returns : goal.returns
returns c = by_union
