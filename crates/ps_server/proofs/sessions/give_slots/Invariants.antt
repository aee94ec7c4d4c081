use Rattle.std.proofs.Common.{◌≡◌}
use Rattle.std.specs.Prelude.{map}
use Rattle.ps_server.proofs.sessions.give_slots.Given as goal

abbrev pub invariant-loop : goal.invariant-loop
invariant-loop g l = map (λ t. t.first) l.slots.items ≡ map (λ t. t.first) l.initial.slots.items
