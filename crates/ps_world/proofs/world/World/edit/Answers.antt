use Rattle.std.proofs.Common.{◌≡◌, ◌+◌, length, refl}
use Rattle.std.proofs.Common.{arith, set, Some}
use Rattle.std.specs.Prelude.{slice_get}
use Rattle.std.proofs.lemmas.Option.{slice_get_read}
use Rattle.ps_world.specs.declared.event.Event.TheVariants.{Edit}
use Rattle.ps_world.proofs.WorldSteps.{Goes, edited, refused, viewed}
use Rattle.ps_world.proofs.world.World.edit.Given.{Over}
use Rattle.ps_world.proofs.world.World.edit.Goals as goal
use Rattle.ps_world.proofs.world.World.edit.Goals.{In-None, In_ok-push-in-Some-2}

-- the world where the replica made a delta
made_one : (g : Over) (c : In_ok-push-in-Some-2 g) → Goes (Edit c.args.replica c.args.edit)
    (viewed c.self.inside.deltas.items c.self.inside.replicas.items)
    (viewed c.push.new.self.items (set c.self.inside.replicas.items c.in-Some.place c.make.new.self))
made_one g c =
    let w = viewed c.self.inside.deltas.items c.self.inside.replicas.items in
    let i = c.in-Some.place in
    let there = c.in-Some.ensures in
    let number : c.len-number.result + 1 ≡ length w.deltas + 1 =
    omega arith in
    let at : slice_get w.replicas i ≡ Some c.index_mut-maker.result.now =
    slice_get_read c.self.inside.replicas.items _ i c.index_mut-maker.result.now refl (omega (arith, there))
    c.index_mut-maker.ensures.value in
    rw c.in_ok-push-in-Some-2.ensures.items
    (edited w c.args.replica (c.len-number.result + 1) i c.index_mut-maker.result.now c.make.new.self c.args.edit
    c.in-Some-2.made c.self.invariant (omega (arith, there)) at number
    (rw c.in-Some-2.is at c.in_ok-make.ensures.made) (rw c.in-Some-2.is at c.in_ok-make.ensures.joined)
    (rw c.in-Some-2.is at c.in_ok-make.ensures.taken) c.make.ensures.replica c.make.ensures.sheet)

pub invariant_of-result-in-Some-2 : goal.invariant_of-result-in-Some-2
invariant_of-result-in-Some-2 g c = (made_one g c).world

pub returns-in_ok-push-in-Some-2-clause-follows : goal.returns-in_ok-push-in-Some-2-clause-follows
returns-in_ok-push-in-Some-2-clause-follows g c = rw (← c.self.view_is) (made_one g c).follows

-- the world where the edit was refused
made_none : (g : Over) (c : In-None g) → Goes (Edit c.args.replica c.args.edit)
    (viewed c.self.inside.deltas.items c.self.inside.replicas.items)
    (viewed c.self.inside.deltas.items
    (set c.self.inside.replicas.items c.in-Some.place c.make.new.self))
made_none g c =
    let w = viewed c.self.inside.deltas.items c.self.inside.replicas.items in
    let i = c.in-Some.place in
    let there = c.in-Some.ensures in
    let at : slice_get w.replicas i ≡ Some c.index_mut-maker.result.now =
    slice_get_read c.self.inside.replicas.items _ i c.index_mut-maker.result.now refl (omega (arith, there))
    c.index_mut-maker.ensures.value in
    let kept = rw c.in-None.is at c.in_ok-make.ensures.kept in
    rw kept
    (refused w c.args.replica i c.index_mut-maker.result.now c.args.edit c.self.invariant (omega (arith, there)) at
    (rw c.in-None.is at c.in_ok-make.ensures.refused))

pub invariant_of-result : goal.invariant_of-result
invariant_of-result g c = (made_none g c).world

pub returns-in-None-clause-follows : goal.returns-in-None-clause-follows
returns-in-None-clause-follows g c = rw (← c.self.view_is) (made_none g c).follows
