use Rattle.std.proofs.Common.{◌≡◌, length}
use Rattle.ps_world.specs.World.{played}
use Rattle.ps_world.specs.Replicas.{world_of}
use Rattle.ps_world.proofs.world.play.Given as goal

abbrev pub invariant-loop-event : goal.invariant-loop-event
invariant-loop-event g l =
    (length l.world.replicas ≡ l.replicas) × (world_of l.world ≡ played l.replicas l.yielded)
