use Rattle.ps_world.proofs.WorldSteps.{new_state, new_world}
use Rattle.ps_world.proofs.world.World.open.Goals as goal

pub invariant_of-result : goal.invariant_of-result
invariant_of-result c = new_world _ c.new.ensures.items c.in_ok-opened.ensures.new

pub returns-clause-empty : goal.returns-clause-empty
returns-clause-empty c = rw c.new.ensures.items (new_state c.in_ok-opened.opened.items c.in_ok-opened.ensures.new)

pub returns-clause-world : goal.returns-clause-world
returns-clause-world c = new_world _ c.new.ensures.items c.in_ok-opened.ensures.new
