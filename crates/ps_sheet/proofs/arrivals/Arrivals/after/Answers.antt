use Rattle.std.proofs.Common.{ap, ◌∙◌}
use Rattle.ps_delta.specs.State.{empty_state, joined_state, state_at}
use Rattle.ps_sheet.proofs.Following.{follow_none}
use Rattle.ps_sheet.proofs.arrivals.Arrivals.after.Goals as goal

pub returns-clause-follow : goal.returns-clause-follow
returns-clause-follow c =
    follow_none c.args.sheet.now.history
    (record { deltas = c.new-2.result.items; grid = c.join.new.self })
    c.new-2.ensures.items c.version.ensures.sheet.fresh
    (c.in_ok-join.ensures.cells ∙ ap (λ s. joined_state s (state_at c.grid.result.now)) c.in_ok-grid.ensures.empty
    ∙ ap (joined_state empty_state) c.grid.ensures.state)
