use Rattle.ps_kept.proofs.LawLemmas.{read_again, starts_may_crash}
use Rattle.ps_kept.proofs.laws.starts_read_the_same.Goals as goal

pub returns-clause-again : goal.returns-clause-again
returns-clause-again c = read_again

pub returns-clause-crash : goal.returns-clause-crash
returns-clause-crash c = starts_may_crash
