use Rattle.ps_kept.proofs.SquashLemmas.{squashed_files_read}
use Rattle.ps_kept.proofs.laws.squashed_files_read_the_same.Goals as goal

pub returns : goal.returns
returns c = squashed_files_read
