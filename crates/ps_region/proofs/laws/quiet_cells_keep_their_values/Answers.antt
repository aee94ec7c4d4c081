use Rattle.ps_region.proofs.ValueLaws.{frame_keeps}
use Rattle.ps_region.proofs.laws.quiet_cells_keep_their_values.Goals as goal

pub returns : goal.returns
returns g c = λ decided old new touched before after fault v w change formula x frame idle.
    frame_keeps _ old new touched before after fault v w change decided formula x frame idle
