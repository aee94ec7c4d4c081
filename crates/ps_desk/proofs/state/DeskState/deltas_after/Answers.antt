use Rattle.std.proofs.Common.{◌≡◌, ◌∙◌, ap, length}
use Rattle.ps_face.specs.Legal.{history_of}
use Rattle.ps_face.specs.Published.{Published}
use Rattle.ps_desk.proofs.state.DeskState.deltas_after.Goals as goal

pub returns-clause-deltas : goal.returns-clause-deltas
returns-clause-deltas g c =
    let h = g.L.Named.opening in
    let is : c.history.result.now ≡ history_of h c.args.self.now.list =
    c.history.ensures.history ∙ c.self.invariant.1.history
    ∙ ap (λ (p : Published). history_of h p.list) c.self.view_is in
    rw is at c.deltas_after.ensures.deltas

pub returns-clause-above : goal.returns-clause-above
returns-clause-above g c =
    let h = g.L.Named.opening in
    let is : c.history.result.now ≡ history_of h c.args.self.now.list =
    c.history.ensures.history ∙ c.self.invariant.1.history
    ∙ ap (λ (p : Published). history_of h p.list) c.self.view_is in
    rw (ap length is) at c.deltas_after.ensures.above

pub returns-clause-asked : goal.returns-clause-asked
returns-clause-asked g c =
    let h = g.L.Named.opening in
    let is : c.history.result.now ≡ history_of h c.args.self.now.list =
    c.history.ensures.history ∙ c.self.invariant.1.history
    ∙ ap (λ (p : Published). history_of h p.list) c.self.view_is in
    rw (ap length is) at c.deltas_after.ensures.memory
