use Rattle.ps_lines.proofs.WordCounts.{taking_in_reads}
use Rattle.ps_lines.proofs.command.read_other.Goals as goal

pub returns-in-Push : goal.returns-in-Push
returns-in-Push c = rw c.in-Push.is (taking_in_reads _ c.args.rest.now c.read_push.result c.read_push.ensures)

pub returns-in-Merge : goal.returns-in-Merge
returns-in-Merge c = rw c.in-Merge.is (taking_in_reads _ c.args.rest.now c.read_merge.result c.read_merge.ensures)
