use Rattle.std.proofs.Common.{◌≡◌, length}
use Rattle.std.specs.Prelude.{map, vec_capacity, vec_len}
use Rattle.ps_server.proofs.sessions.set_up.Given as goal

abbrev pub invariant-loop-pass : goal.invariant-loop-pass
invariant-loop-pass g l =
    (map (λ t. t.first) l.slots.items ≡ l.yielded) × (vec_capacity l.slots ≡ vec_capacity l.fn.slots)
    × (vec_len l.slots ≡ length l.yielded)
