use Rattle.std.proofs.Common.{◌≡◌}
use Rattle.std.specs.Prelude.{map}
use Rattle.ps_server.proofs.sessions.turn_all.Given as goal

abbrev pub invariant-loop-slot : goal.invariant-loop-slot
invariant-loop-slot g l = map (λ t. t.first) l.slot-items ≡ map (λ t. t.first) l.initial.slot-items
