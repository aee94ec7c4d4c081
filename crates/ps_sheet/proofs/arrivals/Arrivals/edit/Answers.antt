use Rattle.std.proofs.Common.{ap, ◌∙◌, ◌++◌, ◌∷◌, [], subst, sym}
use Rattle.ps_delta.specs.State.{IsBelow, joined_state, state_at}
use Rattle.ps_delta.specs.Deltas.{state_of}
use Rattle.ps_sheet.specs.Arrivals.{ArrivalsView}
use Rattle.ps_sheet.proofs.Following.{follow_more}
use Rattle.ps_sheet.proofs.FreshEdits.{edits_are_fresh}
use Rattle.ps_sheet.proofs.arrivals.Arrivals.edit.Goals as goal

pub returns-clause-follow : goal.returns-clause-follow
returns-clause-follow c = λ h follow.
    let x = c.args.self.now in
    let deltas = ap (λ (a : ArrivalsView). a.deltas) c.self.view_is in
    let grid = ap (λ (a : ArrivalsView). a.grid) c.self.view_is in
    follow_more h x
    (record { deltas = c.push_reserved.new.self.items; grid = c.join.new.self })
    c.in_ok-delta.delta follow
    (c.push_reserved.ensures.items ∙ ap (λ ds. ds ++ c.in_ok-delta.delta ∷ []) (c.reserve.ensures.items ∙ deltas))
    (subst (λ bs. ¬ IsBelow (state_of c.in_ok-delta.delta) (state_at bs)) grid
    (edits_are_fresh c.args.replica _ c.args.edit _ c.in_ok-delta.ensures.delta c.in_ok-delta.ensures.made))
    (c.in_ok-join.ensures.ok ∙ ap (λ bs. joined_state (state_at bs) (state_of c.in_ok-delta.delta)) grid)
