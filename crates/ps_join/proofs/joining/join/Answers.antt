use Rattle.std.proofs.Common.{◌∙◌, refl, true}
use Rattle.ps_join.proofs.JoinLemmas.{joining_none, joining_waits, stopped_waits}
use Rattle.ps_join.specs.Joins.{fresh}
use Rattle.ps_join.proofs.joining.join.Goals as goal

pub rounds-init : goal.rounds-init
rounds-init g c = record {
  from = fresh;
  to = fresh;
  joining = joining_none true c.args.from.now c.args.to.now;
  from_at = refl;
  to_at = refl;
  first = refl;
  second = refl;
}

pub rounds-preserved : goal.rounds-preserved
rounds-preserved g c =
    let i = c.rounds.invariant in
    let b = c.in-Ok.ensures.carried true c.args.from.now c.args.to.now i.from i.to i.joining i.from_at i.to_at in
    let waited = c.in-Ok-await_either.ensures.waited in
    record {
      from = b.from;
      to = b.to;
      joining = joining_waits true c.args.from.now c.carry_both.new.from c.await_either.new.from c.args.to.now
          c.carry_both.new.to c.await_either.new.to b.from b.to _ _ refl b.joining b.from_at b.to_at waited.0 waited.1;
      from_at = b.from_at;
      to_at = b.to_at;
      first = waited.0.2.0.calm ∙ c.in-Ok.ensures.calm.0 ∙ i.first;
      second = waited.1.2.0.calm ∙ c.in-Ok.ensures.calm.1 ∙ i.second;
    }

pub returns-in-Err-clause-stopped : goal.returns-in-Err-clause-stopped
returns-in-Err-clause-stopped g c =
    let i = c.rounds.invariant in
    c.in-Err.ensures.stopped true c.args.from.now c.args.to.now i.from i.to i.joining i.from_at i.to_at

pub returns-in-Err-await_either-clause-stopped : goal.returns-in-Err-await_either-clause-stopped
returns-in-Err-await_either-clause-stopped g c =
    let i = c.rounds.invariant in
    let b = c.in-Ok.ensures.carried true c.args.from.now c.args.to.now i.from i.to i.joining i.from_at i.to_at in
    stopped_waits true _ _ c.args.from.now c.carry_both.new.from c.await_either.new.from c.args.to.now
    c.carry_both.new.to c.await_either.new.to b.from b.to refl b.joining b.from_at b.to_at
    c.in-Err-await_either.ensures.broken
