use Rattle.std.proofs.Common.{arith, subst, sym}
use Rattle.ps_world.specs.Replicas.{ReplicaView}
use Rattle.ps_world.specs.Inside.Steps.{AreNew}
use Rattle.std.proofs.Common.{List}
use Rattle.ps_world.proofs.WorldSteps.{new_push}
use Rattle.ps_world.proofs.world.opened.Goals as goal

pub loop-place-preserved : goal.loop-place-preserved
loop-place-preserved c = (
  omega (arith, c.in_ok-push.ensures.len, c.loop-place.invariant.0),
  subst (λ (xs : List ReplicaView). AreNew xs) (sym c.in_ok-push.ensures.items)
      (new_push c.loop-place.opened.items c.loop-place.place c.in_ok-open.field-0
      c.loop-place.invariant.0 c.loop-place.invariant.1 c.in_ok-open.ensures.new),
)
