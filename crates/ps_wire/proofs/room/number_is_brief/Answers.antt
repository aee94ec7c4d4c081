use Rattle.ps_wire.proofs.BriefLemmas.{size-number}
use Rattle.ps_wire.proofs.room.number_is_brief.Goals as goal

pub returns : goal.returns
returns c = size-number c.args.number c.ranges.number
