use Rattle.std.proofs.Common.{refl, rules}
use Rattle.ps_server.specs.Sessions.{Attended}
use Rattle.ps_server.proofs.Backs.{begun, one_more}
use Rattle.ps_server.proofs.slot.Slot.begin.Goals as goal

pub invariant_of-self : goal.invariant_of-self
invariant_of-self g c =
    let before : Attended g.L.DeskName.replica g.L.Named.opening c.self.inside.begun c.self.inside.first.value
    c.given_back-pass.result = search (rules, one_more) in
    (refl, begun _ _ (λ s. s.promise.0.value) c.begin.result _ _ _ _ refl before c.begin.ensures)
