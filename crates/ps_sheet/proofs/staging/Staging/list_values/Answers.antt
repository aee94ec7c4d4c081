use Rattle.std.proofs.Common.{is_some, ap, ◌∙◌}
use Rattle.ps_sheet.specs.Staging.{StagingView}
use Rattle.ps_sheet.proofs.StagedChanges.{listed_values}
use Rattle.ps_sheet.proofs.staging.Staging.list_values.Goals as goal

pub returns-clause-values : goal.returns-clause-values
returns-clause-values c =
    let kept = c.list_values.ensures.kept in
    listed_values c.self.inside.cells c.list_values.new.self c.self.inside.staged
    (ap (λ (w : StagingView). is_some w.staged) c.self.view_is ∙ c.requires.staged)
    c.list_values.ensures.values kept.1 kept.5
