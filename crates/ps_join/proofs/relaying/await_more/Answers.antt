use Rattle.std.proofs.Common.{[], ◌∷◌, inr, refl}
use Rattle.ps_join.proofs.JoinLemmas.{on_ok, put_cut, put_ended, put_unended}
use Rattle.ps_join.proofs.RelayLemmas.{on_err}
use Rattle.ps_join.specs.Joins.{IsEnded, IsUnended, IsUnwaited, IsWaited}
use Rattle.ps_join.proofs.relaying.await_more.Goals as goal

pub returns-in-Err-clause-broken : goal.returns-in-Err-clause-broken
returns-in-Err-clause-broken g c =
    put_cut c.args.position c.args.server.now c.put_wait.new.from c.in-Err.ensures.some c.in-Err.ensures.unread

pub returns-clause-waited : goal.returns-clause-waited
returns-clause-waited g c =
    on_ok c.end_wait.result (IsEnded (10 ∷ []) c.args.position c.put_wait.new.from c.end_wait.new.peer)
    (IsWaited c.args.position c.args.server.now c.end_wait.new.peer)
    (put_ended c.args.position (10 ∷ []) c.args.server.now c.put_wait.new.from c.end_wait.new.peer (inr refl)
    c.in-Ok.ensures.put) (rw c.as_slice.ensures at c.end_wait.ensures.replied)

pub returns-clause-broken : goal.returns-clause-broken
returns-clause-broken g c =
    on_err c.end_wait.result (IsUnended (10 ∷ []) c.put_wait.new.from c.end_wait.new.peer)
    (IsUnwaited c.args.position c.args.server.now c.end_wait.new.peer)
    (put_unended c.args.position (10 ∷ []) c.args.server.now c.put_wait.new.from c.end_wait.new.peer (inr refl)
    c.in-Ok.ensures.put) (rw c.as_slice.ensures at c.end_wait.ensures.broken)
