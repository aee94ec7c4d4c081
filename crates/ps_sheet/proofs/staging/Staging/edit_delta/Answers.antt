use Rattle.std.proofs.Common.{ap, ◌∙◌}
use Rattle.ps_delta.specs.State.{state_at}
use Rattle.ps_sheet.proofs.FreshEdits.{answers_are_fresh}
use Rattle.ps_sheet.proofs.Staged.{idle_state}
use Rattle.ps_sheet.proofs.staging.Staging.edit_delta.Goals as goal

pub returns-clause-fresh : goal.returns-clause-fresh
returns-clause-fresh c =
    let x = c.self.inside in
    answers_are_fresh x.replica (state_at c.grid.result.now) _ c.args.edit c.delta_of.result
    (ap state_at c.grid.ensures.grid ∙ idle_state x c.args.self.now c.self.view_is c.requires.none c.self.invariant)
    c.delta_of.ensures.made c.delta_of.ensures.delta
