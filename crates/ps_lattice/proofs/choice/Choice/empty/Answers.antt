use Rattle.ps_lattice.specs.Choice.{pair_cmp}
use Rattle.ps_lattice.specs.ChoiceLaws.{pairs_total, pairs_apart}
use Rattle.ps_lattice.proofs.Views.{seen_empty}
use Rattle.ps_lattice.proofs.choice.Choice.empty.Goals as goal

pub returns : goal.returns
returns c = seen_empty pair_cmp pairs_total pairs_apart
