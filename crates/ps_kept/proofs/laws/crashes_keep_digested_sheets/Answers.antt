use Rattle.ps_kept.proofs.DigestedLemmas.{crashes_keep_digested, told_plain}
use Rattle.ps_kept.proofs.laws.crashes_keep_digested_sheets.Goals as goal

pub returns-clause-lines : goal.returns-clause-lines
returns-clause-lines c = told_plain

pub returns-clause-crash : goal.returns-clause-crash
returns-clause-crash c = crashes_keep_digested
