use Rattle.std.proofs.Common.{ap, ◌∙◌}
use Rattle.ps_delta.specs.State.{state_at}
use Rattle.ps_delta.specs.Deltas.{joined_history}
use Rattle.ps_sheet.proofs.MergedChanges.{news_found}
use Rattle.ps_sheet.proofs.Staged.{idle_state}
use Rattle.ps_sheet.proofs.staging.Staging.news.Goals as goal

pub returns-clause-news : goal.returns-clause-news
returns-clause-news c =
    let x = c.self.inside in
    let told = c.news.ensures in
    news_found (joined_history c.args.self.now.history) (state_at c.grid.result.now) c.args.delta.now c.news.result
    (ap state_at c.grid.ensures.grid ∙ idle_state x c.args.self.now c.self.view_is c.requires.none c.self.invariant)
    told.news told.delta told.none
