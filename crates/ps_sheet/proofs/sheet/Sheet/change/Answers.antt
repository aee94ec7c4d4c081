use Rattle.std.proofs.Common.{sym, subst}
use Rattle.ps_sheet.specs.Sheet.{IsSheet}
use Rattle.ps_sheet.specs.Staging.{StagingView, sheet_of}
use Rattle.ps_sheet.proofs.MadeChanges.{idle_is_sheet, made_report, makes}
use Rattle.ps_sheet.proofs.sheet.Sheet.change.Goals as goal

pub returns-in-Err-clause-sheet : goal.returns-in-Err-clause-sheet
returns-in-Err-clause-sheet g c =
    subst (λ (x : StagingView). IsSheet (sheet_of x)) (sym c.in-Err.ensures.kept)
    (idle_is_sheet c.self.inside.staging c.self.invariant c.version.ensures.staging)

pub returns-in-Ok-clause-made : goal.returns-in-Ok-clause-made
returns-in-Ok-clause-made g c =
    let y = c.stage.new.self in
    let said = c.in-Ok.ensures in
    makes c.self.inside.staging y c.make.new.self c.args.self.now c.args.change _ c.in-Ok.report y.staged
    c.self.view_is said.staged.history said.staged.worked_out said.delta said.fresh said.idle said.staged.report
    c.make.ensures.of c.make.ensures.idle said.staged.report

pub returns-in-Ok-clause-report : goal.returns-in-Ok-clause-report
returns-in-Ok-clause-report g c =
    let y = c.stage.new.self in
    let said = c.in-Ok.ensures.staged in
    made_report c.self.inside.staging y c.make.new.self c.args.self.now c.in-Ok.report y.staged c.self.view_is
    said.history said.worked_out said.before c.make.ensures.of said.report
