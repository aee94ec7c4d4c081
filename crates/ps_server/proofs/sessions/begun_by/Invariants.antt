use Rattle.std.proofs.Common.{◌≡◌, take}
use Rattle.std.specs.Prelude.{sum_by}
use Rattle.ps_server.proofs.sessions.begun_by.Given as goal

abbrev pub invariant-loop-slot : goal.invariant-loop-slot
invariant-loop-slot g l = l.all ≡ sum_by (λ t. t.begun) (take l.slot-index l.slot-items)
