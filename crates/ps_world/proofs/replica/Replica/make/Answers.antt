use Rattle.ps_world.proofs.WorldSteps.{made_joins}
use Rattle.ps_world.proofs.replica.Replica.make.Goals as goal

pub returns-clause-joined : goal.returns-clause-joined
returns-clause-joined g c =
    rw (← c.self.view_is)
    (made_joins _ _ _ c.in_ok-newest.field-0 c.in-Ok.ensures.made c.in_ok-newest.ensures.newest)
