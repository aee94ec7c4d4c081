use Rattle.ps_csv.proofs.FaultLemmas.{no_device}
use Rattle.ps_csv.proofs.incoming.checked.Goals as goal

pub returns-clause-device : goal.returns-clause-device
returns-clause-device g c = no_device c.read_table.result _ _ _ c.read_table.ensures.fault c.read_table.ensures.reader
