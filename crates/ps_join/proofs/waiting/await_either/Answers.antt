use Rattle.std.proofs.Common.{[], ◌∷◌, inl, inr, refl, subst, sym}
use Rattle.ps_join.proofs.JoinLemmas.{if_err, on_ok, put_cut, put_ended, puts_unended, unwaited_turned}
use Rattle.ps_join.specs.Joins.{AreUnended, AreUnwaited, IsEnded, IsWaited}
use Rattle.ps_peers.specs.Exchange.{wait_text}
use Rattle.ps_peers.specs.Peers.{IsPut}
use Rattle.ps_join.proofs.waiting.await_either.Goals as goal

pub returns-in-Err-clause-broken : goal.returns-in-Err-clause-broken
returns-in-Err-clause-broken g c = (
  put_cut c.args.at.from c.args.from.now c.put_wait.new.from c.in-Err.ensures.some c.in-Err.ensures.unread,
  inl refl,
)

pub returns-in-Err-put_wait-clause-broken : goal.returns-in-Err-put_wait-clause-broken
returns-in-Err-put_wait-clause-broken g c = (
  put_cut c.args.at.to c.args.to.now c.put_wait-2.new.from c.in-Err-put_wait.ensures.some
      c.in-Err-put_wait.ensures.unread,
  inr (inl c.in-Ok.ensures.put),
)

pub returns-in-From-clause-waited : goal.returns-in-From-clause-waited
returns-in-From-clause-waited g c =
    on_ok c.end_waits.result (IsEnded [] c.args.at.from c.put_wait.new.from c.end_waits.new.spoke
    × IsEnded (10 ∷ []) c.args.at.to c.put_wait-2.new.from c.end_waits.new.silent)
    (IsWaited c.args.at.from c.args.from.now c.end_waits.new.spoke
    × IsWaited c.args.at.to c.args.to.now c.end_waits.new.silent)
    (λ e. (
      put_ended c.args.at.from [] c.args.from.now c.put_wait.new.from c.end_waits.new.spoke (inl refl)
          c.in-Ok.ensures.put e.0,
      put_ended c.args.at.to (10 ∷ []) c.args.to.now c.put_wait-2.new.from c.end_waits.new.silent (inr refl)
          c.in-Ok-put_wait.ensures.put e.1,
    )) c.end_waits.ensures.replied

pub returns-in-From-clause-broken : goal.returns-in-From-clause-broken
returns-in-From-clause-broken g c =
    if_err c.end_waits.result
    (λ f. AreUnended f.end c.args.at c.put_wait.new.from c.end_waits.new.spoke c.put_wait-2.new.from
    c.end_waits.new.silent)
    (λ f. AreUnwaited f.end c.args.at c.args.from.now c.end_waits.new.spoke c.args.to.now c.end_waits.new.silent)
    (λ f u. puts_unended f.end c.args.at c.args.from.now c.put_wait.new.from c.end_waits.new.spoke c.args.to.now
    c.put_wait-2.new.from c.end_waits.new.silent c.in-Ok.ensures.put c.in-Ok-put_wait.ensures.put u)
    c.end_waits.ensures.broken

pub returns-in-Ok-end_waits-clause-waited : goal.returns-in-Ok-end_waits-clause-waited
returns-in-Ok-end_waits-clause-waited g c =
    let e = c.in-Ok-end_waits.ensures.replied in (
      put_ended c.args.at.from (10 ∷ []) c.args.from.now c.put_wait.new.from c.end_waits-in-To.new.silent (inr refl)
          c.in-Ok.ensures.put (subst (λ n. IsEnded (10 ∷ []) n c.put_wait.new.from c.end_waits-in-To.new.silent)
          c.turned.ensures.to e.1),
      put_ended c.args.at.to [] c.args.to.now c.put_wait-2.new.from c.end_waits-in-To.new.spoke (inl refl)
          c.in-Ok-put_wait.ensures.put (subst (λ n. IsEnded [] n c.put_wait-2.new.from c.end_waits-in-To.new.spoke)
          c.turned.ensures.from e.0),
    )

pub returns-in-Err-end_waits-clause-broken : goal.returns-in-Err-end_waits-clause-broken
returns-in-Err-end_waits-clause-broken g c =
    subst (λ end. AreUnwaited end c.args.at c.args.from.now c.end_waits-in-To.new.silent c.args.to.now
    c.end_waits-in-To.new.spoke) (sym c.turned_fault.ensures.end)
    (unwaited_turned c.in-Err-end_waits.fault.end c.args.at c.turned.result c.args.from.now
    c.end_waits-in-To.new.silent c.args.to.now c.end_waits-in-To.new.spoke c.turned.ensures.from c.turned.ensures.to
    (puts_unended c.in-Err-end_waits.fault.end c.turned.result c.args.to.now c.put_wait-2.new.from
    c.end_waits-in-To.new.spoke c.args.from.now c.put_wait.new.from c.end_waits-in-To.new.silent
    (subst (λ n. IsPut (wait_text n) c.args.to.now c.put_wait-2.new.from) (sym c.turned.ensures.from)
    c.in-Ok-put_wait.ensures.put)
    (subst (λ n. IsPut (wait_text n) c.args.from.now c.put_wait.new.from) (sym c.turned.ensures.to)
    c.in-Ok.ensures.put) c.in-Err-end_waits.ensures.broken))
