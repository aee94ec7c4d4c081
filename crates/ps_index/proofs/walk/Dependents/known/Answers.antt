use Rattle.std.proofs.Common.{sym}
use Rattle.ps_index.proofs.WalksInOrder.{known_ahead, known_start}
use Rattle.ps_index.proofs.walk.Dependents.known.Goals as goal

pub invariant_of-result : goal.invariant_of-result
invariant_of-result c = known_ahead _ _ _ c.requires.sole c.requires.small _ _ c.requires.in_grid

pub returns : goal.returns
returns c = sym (known_start _ _ _ c.requires.sole c.requires.small)
