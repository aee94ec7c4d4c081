use Rattle.std.proofs.Common.{◌≡◌, ◌+◌, take}
use Rattle.std.specs.Prelude.{sum_by}
use Rattle.ps_wire.proofs.SizeLemmas.{ended}
use Rattle.ps_wire.proofs.length.array_left.Given as goal

-- `left` is the room less what the first bracket and the parts so far take
abbrev pub invariant-loop-part : goal.invariant-loop-part
invariant-loop-part g l = l.left + 1 + sum_by (ended g.P.Part.spelled) (take l.part-index l.parts) ≡ l.room
