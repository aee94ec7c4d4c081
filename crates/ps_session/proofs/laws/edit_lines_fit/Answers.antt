use Rattle.ps_session.proofs.EditLineLemmas.{edit_lines_fit, edits_are_lawful}
use Rattle.ps_session.proofs.laws.edit_lines_fit.Goals as goal

pub returns-clause-fit : goal.returns-clause-fit
returns-clause-fit c = edit_lines_fit

pub returns-clause-lawful : goal.returns-clause-lawful
returns-clause-lawful c = edits_are_lawful
