use Rattle.ps_sheet.proofs.MadeChanges.{prepared_over}
use Rattle.ps_sheet.proofs.sheet.Sheet.prepare_by.Goals as goal

pub returns-in-Ok-clause-of : goal.returns-in-Ok-clause-of
returns-in-Ok-clause-of g c =
    let y = c.stage.new.self in
    let said = c.in-Ok.ensures.staged in
    prepared_over c.self.inside.staging y c.args.self c.of.result y.staged c.self.view_is said.replica said.history
    said.before c.of.ensures.of
