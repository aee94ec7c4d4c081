use Rattle.std.specs.Ordering.{nat_cmp}
use Rattle.std.specs.Cmp.{nat_cmp_total}
use Rattle.std.specs.FinMap.{nat_cmp-IsAntisymmetric}
use Rattle.ps_lattice.proofs.Views.{seen_empty}
use Rattle.ps_lattice.proofs.tally.Tally.empty.Goals as goal

pub returns : goal.returns
returns c = seen_empty nat_cmp nat_cmp_total nat_cmp-IsAntisymmetric
