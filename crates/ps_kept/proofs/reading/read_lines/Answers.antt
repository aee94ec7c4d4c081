use Rattle.ps_kept.proofs.PushLemmas.{fault_after_first}
use Rattle.ps_kept.proofs.reading.read_lines.Goals as goal

pub returns-in-Err-pushed-clause-fault : goal.returns-in-Err-pushed-clause-fault
returns-in-Err-pushed-clause-fault g c =
    fault_after_first c.args.replica c.args.bytes.now _ c.in-Err-pushed.fault c.in_ok-others.ensures.read
    c.in-Err-pushed.ensures.fault
