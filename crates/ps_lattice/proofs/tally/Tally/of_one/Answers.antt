use Rattle.std.specs.Ordering.{nat_cmp}
use Rattle.std.specs.Cmp.{nat_cmp_total}
use Rattle.std.specs.FinMap.{nat_cmp-IsAntisymmetric}
use Rattle.ps_lattice.proofs.Views.{seen_one}
use Rattle.ps_lattice.proofs.tally.Tally.of_one.Goals as goal

pub returns-clause-ok : goal.returns-clause-ok
returns-clause-ok c = rw c.in_ok-counts.ensures.ok
    (seen_one nat_cmp nat_cmp_total nat_cmp-IsAntisymmetric c.args.replica c.args.count)
