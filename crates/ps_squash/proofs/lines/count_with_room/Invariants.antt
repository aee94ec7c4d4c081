use Rattle.std.proofs.Common.{◌≡◌, ◌+◌, ◌-◌, ◌≤◌, length, take}
use Rattle.std.specs.Prelude.{sum_by}
use Rattle.ps_wire.specs.declared.TheConstants.{DELTA_LINE_LIMIT}
use Rattle.ps_squash.specs.Inside.{ended_size}
use Rattle.ps_squash.proofs.lines.count_with_room.Given as goal

abbrev pub invariant-cells : goal.invariant-cells
invariant-cells l = record {
  within : l.count ≤ length l.sizes;
  so_far : l.left + 1 + sum_by ended_size (take l.count l.sizes) ≡ DELTA_LINE_LIMIT;
}

abbrev pub decreases-cells : goal.decreases-cells
decreases-cells l = length l.sizes - l.count
