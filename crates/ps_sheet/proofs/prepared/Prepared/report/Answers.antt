use Rattle.std.proofs.Common.{subst}
use Rattle.ps_sheet.specs.Prepared.{IsPrepared}
use Rattle.ps_sheet.proofs.StagedChanges.{ready_prepared}
use Rattle.ps_sheet.proofs.prepared.Prepared.report.Goals as goal

pub returns-clause-prepared : goal.returns-clause-prepared
returns-clause-prepared c =
    subst IsPrepared c.self.view_is
    (ready_prepared c.self.inside.staging c.self.inside.staging.staged c.self.invariant)
