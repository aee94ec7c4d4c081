use Rattle.ps_shown.specs.Shown.{shown_at}
use Rattle.ps_cells.specs.ChangedCells.{IsChanged}
use Rattle.ps_sheet.specs.Prepared.{shown_before}
use Rattle.ps_sheet.specs.Staging.{StagedView, StagingView, prepared_of}
use Rattle.ps_desk.proofs.Noted.{at_staged, keeps_listed}
use Rattle.ps_desk.proofs.change.find_changed.Goals as goal

pub returns-clause-same : goal.returns-clause-same
returns-clause-same c = keeps_listed c.args.sheet.now c.list_changed.new.self c.list_changed.ensures.same

pub returns-clause-found : goal.returns-clause-found
returns-clause-found c =
    let y : StagingView = c.list_changed.new.self in
    at_staged (λ (p : StagedView). IsChanged (shown_before (prepared_of y p)) (shown_at y.shown) p.changed) y.staged
    c.list_changed.ensures.changed
