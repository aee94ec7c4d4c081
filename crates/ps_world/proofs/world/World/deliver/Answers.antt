use Rattle.std.proofs.Common.{◌≡◌, ◌≤◌, ℕ, length, ap, ◌∙◌, refl, subst, sym, arith, set, Some}
use Rattle.std.specs.Prelude.{slice_get}
use Rattle.std.proofs.lemmas.Option.{slice_get_read}
use Rattle.ps_world.specs.declared.event.Event.TheVariants.{Deliver}
use Rattle.ps_world.proofs.WorldSteps.{Goes, delivered, viewed}
use Rattle.ps_world.proofs.world.World.deliver.Given.{Over}
use Rattle.ps_world.proofs.world.World.deliver.Goals as goal
use Rattle.ps_world.proofs.world.World.deliver.Goals.{In_ok-take}

-- the world where the replica took the delta
goes : (g : Over) (c : In_ok-take g) → Goes (Deliver c.args.replica c.args.number)
    (viewed c.self.inside.deltas.items c.self.inside.replicas.items)
    (viewed c.self.inside.deltas.items
    (set c.self.inside.replicas.items c.in-Some.place c.take.new.self))
goes g c =
    let w = viewed c.self.inside.deltas.items c.self.inside.replicas.items in
    let i = c.in-Some.place in
    let there = c.in-Some.ensures in
    let sent = c.in-Some-place_of.ensures in
    let high : c.args.number ≤ length w.deltas =
    omega (arith, sent.0.1) in
    let at : slice_get w.replicas i ≡ Some c.index_mut-taker.result.now =
    slice_get_read c.self.inside.replicas.items _ i c.index_mut-taker.result.now refl (omega (arith, there))
    c.index_mut-taker.ensures.value in
    let delta : slice_get w.deltas c.in-Some-place_of.sent ≡ Some c.in_ok-delta.delta =
    slice_get_read c.self.inside.deltas.items _ c.in-Some-place_of.sent c.index.result.now refl
    (omega (arith, sent)) c.index.ensures
    ∙ ap Some (sym c.in_ok-delta.ensures.equal) in
    delivered w c.args.replica c.args.number i c.index_mut-taker.result.now c.take.new.self
    c.in_ok-delta.delta c.self.invariant (omega (arith, there)) at sent.0.0 high
    (subst (λ (n : ℕ). slice_get w.deltas n ≡ Some c.in_ok-delta.delta) sent.1 delta)
    c.in_ok-take.ensures.joined c.in_ok-take.ensures.taken c.take.ensures.replica c.in_ok-take.ensures.sheet

pub invariant_of-result : goal.invariant_of-result
invariant_of-result g c = (goes g c).world

pub returns-clause-follows : goal.returns-clause-follows
returns-clause-follows g c = rw (← c.self.view_is) (goes g c).follows
