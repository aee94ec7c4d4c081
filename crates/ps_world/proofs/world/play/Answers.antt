use Rattle.std.proofs.Common.{subst}
use Rattle.ps_world.specs.Replicas.{IsWorld}
use Rattle.ps_world.proofs.WorldSteps.{shows_settled, same_taken_shows_the_same}
use Rattle.ps_world.proofs.world.play.Goals as goal

pub returns-clause-world : goal.returns-clause-world
returns-clause-world g c = subst IsWorld c.world.view_is c.world.invariant

pub returns-clause-settled : goal.returns-clause-settled
returns-clause-settled g c =
    shows_settled c.loop-event.world (subst IsWorld c.world.view_is c.world.invariant)

pub returns-clause-same : goal.returns-clause-same
returns-clause-same g c =
    same_taken_shows_the_same c.loop-event.world (subst IsWorld c.world.view_is c.world.invariant)
