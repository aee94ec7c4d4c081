use Rattle.ps_region.proofs.ValueLaws.{outside_keeps}
use Rattle.ps_region.proofs.laws.cells_outside_keep_their_values.Goals as goal

pub returns : goal.returns
returns g c = λ old new touched before after fault v w change x out.
    outside_keeps _ old new touched before after fault v w change x out
