use Rattle.ps_kept.proofs.LawLemmas.{one_history, read_files_open}
use Rattle.ps_kept.proofs.laws.one_history_is_read.Goals as goal

pub returns-clause-one : goal.returns-clause-one
returns-clause-one c = one_history

pub returns-clause-opens : goal.returns-clause-opens
returns-clause-opens c = read_files_open
