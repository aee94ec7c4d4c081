use Rattle.std.proofs.Common.{List, ap, ◌∙◌, subst}
use Rattle.ps_world.specs.Replicas.{IsWorld, ReplicaView, WorldView, replica_at}
use Rattle.ps_world.proofs.world.World.replica.Goals as goal

pub returns-clause-replica : goal.returns-clause-replica
returns-clause-replica c =
    c.numbered.ensures
    ∙ (ap (λ (xs : List ReplicaView). replica_at xs c.args.replica) c.deref.ensures.value
    ∙ ap (λ (w : WorldView). replica_at w.replicas c.args.replica) c.self.view_is)

pub returns-clause-world : goal.returns-clause-world
returns-clause-world c = subst IsWorld c.self.view_is c.self.invariant
