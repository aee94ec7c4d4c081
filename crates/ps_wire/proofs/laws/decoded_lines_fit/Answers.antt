use Rattle.ps_wire.proofs.ShorterLemmas.{decoded_fit}
use Rattle.ps_wire.proofs.laws.decoded_lines_fit.Goals as goal

pub returns : goal.returns
returns c = decoded_fit
