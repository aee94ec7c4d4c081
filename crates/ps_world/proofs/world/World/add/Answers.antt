use Rattle.std.proofs.Common.{List, ap, refl, subst, sym}
use Rattle.ps_delta.specs.Deltas.{Entries}
use Rattle.ps_world.specs.Replicas.{IsWorld, world_of}
use Rattle.ps_world.proofs.WorldSteps.{added}
use Rattle.ps_world.proofs.world.World.add.Goals as goal

pub invariant_of-result : goal.invariant_of-result
invariant_of-result c =
    subst (λ (ds : List Entries). IsWorld (record { deltas = ds; replicas = c.self.inside.replicas.items }))
    (sym c.in_ok-push.ensures.items)
    (added _ c.args.delta c.self.invariant)

pub returns-clause-follows : goal.returns-clause-follows
returns-clause-follows c =
    rw (← c.self.view_is) (record {
      replicas = refl;
      state = ap (λ (ds : List Entries). world_of (record { deltas = ds; replicas = c.self.inside.replicas.items }))
          c.in_ok-push.ensures.items;
    })
