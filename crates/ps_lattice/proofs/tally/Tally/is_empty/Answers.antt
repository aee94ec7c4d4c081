use Rattle.std.proofs.Common.{◌==◌, ap, length, ◌∙◌}
use Rattle.std.specs.Ordering.{nat_cmp}
use Rattle.std.specs.Cmp.{nat_cmp_total}
use Rattle.std.specs.FinMap as map
use Rattle.std.specs.FinMap.{nat_cmp-IsAntisymmetric}
use Rattle.ps_lattice.proofs.Views.{empty_tells}
use Rattle.ps_lattice.proofs.tally.Tally.is_empty.Goals as goal

pub returns : goal.returns
returns c = empty_tells nat_cmp nat_cmp_total nat_cmp-IsAntisymmetric c.args.self.now c.is_empty.result
    (c.is_empty.ensures
    ∙ ap (λ es. length es == 0) (c.as_slice.ensures.value ∙ ap map.entries c.parts.ensures.value))
