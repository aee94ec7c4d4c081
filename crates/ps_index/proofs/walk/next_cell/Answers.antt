use Rattle.std.proofs.Common.{arith}
use Rattle.ps_index.proofs.WalksInOrder.{IsMoved-head}
use Rattle.ps_index.proofs.walk.next_cell.Goals as goal

pub returns-else-runs-eq1 : goal.returns-else-runs-eq1
returns-else-runs-eq1 c = IsMoved-head _ _ _ _ _ _ _ _ c.least_head.ensures (omega arith)
