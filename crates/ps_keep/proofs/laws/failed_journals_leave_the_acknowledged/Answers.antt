use Rattle.ps_keep.proofs.CrashLemmas.{journal_found}
use Rattle.ps_keep.proofs.laws.failed_journals_leave_the_acknowledged.Goals as goal

pub returns : goal.returns
returns c = journal_found
