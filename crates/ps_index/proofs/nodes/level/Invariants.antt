use Rattle.std.proofs.Common.{◌≡◌, ◌≤◌, ◌-◌}
use Rattle.ps_index.specs.Inside.Nodes.{rounded}
use Rattle.ps_index.proofs.nodes.level.Given as goal

abbrev pub invariant-loop-level : goal.invariant-loop-level
invariant-loop-level l = (l.level ≤ 10) × (rounded l.row l.level ≡ l.row)

abbrev pub decreases-loop-level : goal.decreases-loop-level
decreases-loop-level l = 10 - l.level
