use Rattle.ps_wire.proofs.LawLemmas.{batches_fit, edits_fit}
use Rattle.ps_wire.proofs.laws.edited_lines_fit.Goals as goal

pub returns-clause-batches : goal.returns-clause-batches
returns-clause-batches c = batches_fit

pub returns-clause-edits : goal.returns-clause-edits
returns-clause-edits c = edits_fit
