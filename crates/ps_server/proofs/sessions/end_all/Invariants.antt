use Rattle.std.proofs.Common.{◌≡◌, length}
use Rattle.std.specs.Prelude.{vec_capacity}
use Rattle.ps_server.specs.Sessions.{Back}
use Rattle.ps_server.proofs.sessions.end_all.Given as goal

abbrev pub invariant-loop-slot : goal.invariant-loop-slot
invariant-loop-slot g l =
    Back g.L.DeskName.replica g.L.Named.opening l.yielded l.back.items × (length l.back.items ≡ length l.yielded)
    × (vec_capacity l.back ≡ vec_capacity l.fn.back)
