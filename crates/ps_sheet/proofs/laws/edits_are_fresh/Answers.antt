use Rattle.ps_sheet.proofs.FreshEdits.{edits_are_fresh}
use Rattle.ps_sheet.proofs.laws.edits_are_fresh.Goals as goal

pub returns : goal.returns
returns c = edits_are_fresh
