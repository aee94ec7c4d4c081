use Rattle.std.proofs.Common.{◌≡◌, vec_len}
use Rattle.ps_server.proofs.sessions.end_flags.Given as goal

abbrev pub invariant-loop-made : goal.invariant-loop-made
invariant-loop-made l = vec_len l.flags ≡ l.made
