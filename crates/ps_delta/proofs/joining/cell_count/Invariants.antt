use Rattle.std.proofs.Common.{◌≡◌, ◌-◌, ◌^◌, length, take}
use Rattle.std.specs.Prelude.{min, sum_by}
use Rattle.ps_delta.proofs.joining.cell_count.Given as goal

abbrev pub invariant-loop-delta : goal.invariant-loop-delta
invariant-loop-delta l = l.count ≡ min (sum_by length (take l.delta-index l.deltas)) (2 ^ 64 - 1)
