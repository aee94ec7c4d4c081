use Rattle.ps_kept.proofs.LawLemmas.{crashes_keep}
use Rattle.ps_kept.proofs.laws.crashes_keep_sheets.Goals as goal

pub returns : goal.returns
returns c = crashes_keep
