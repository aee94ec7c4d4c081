use Rattle.ps_wire.proofs.NoFeedLemmas.{delta_line}
use Rattle.ps_wire.proofs.laws.delta_texts_are_one_line.Goals as goal

pub returns : goal.returns
returns c = delta_line
