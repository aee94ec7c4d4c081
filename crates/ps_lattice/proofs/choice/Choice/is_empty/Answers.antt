use Rattle.std.proofs.Common.{◌==◌, ap, length, ◌∙◌}
use Rattle.ps_lattice.specs.Choice.{pair_cmp}
use Rattle.ps_lattice.specs.ChoiceLaws.{pairs_total, pairs_apart}
use Rattle.ps_lattice.proofs.Views.{empty_tells}
use Rattle.ps_lattice.proofs.choice.Choice.is_empty.Goals as goal

pub returns : goal.returns
returns c = empty_tells pair_cmp pairs_total pairs_apart c.args.self.now c.is_empty.result
    (c.is_empty.ensures ∙ ap (λ es. length es == 0) c.parts.ensures.value)
