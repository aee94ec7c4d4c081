use Rattle.std.proofs.Common.{◌≡◌, ◌+◌, length, take}
use Rattle.std.specs.Prelude.{sum_by}
use Rattle.ps_wire.proofs.sharing.have_more_cells.Given as goal

abbrev pub invariant-loop-delta : goal.invariant-loop-delta
invariant-loop-delta l = l.left + sum_by length (take l.delta-index l.deltas) ≡ l.most
