use Rattle.ps_kept.proofs.LawLemmas.{stays_noted}
use Rattle.ps_kept.proofs.laws.longer_histories_fit.Goals as goal

pub returns : goal.returns
returns c = stays_noted
