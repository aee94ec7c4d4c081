use Rattle.ps_join.proofs.JoinLemmas.{carried_both, stopped_back}
use Rattle.ps_join.proofs.joining.carry_both.Goals as goal

pub returns-in-Ok-carry-clause-carried : goal.returns-in-Ok-carry-clause-carried
returns-in-Ok-carry-clause-carried g c =
    carried_both c.args.start _ _ _ _ c.args.from.now c.carry.new.from c.carry-2.new.to c.args.to.now c.carry.new.to
    c.carry-2.new.from c.in-Ok.ensures.carried c.turned.ensures.from c.turned.ensures.to c.in-Ok-carry.ensures.carried
    c.turned-in-Ok-carry.ensures.from c.turned-in-Ok-carry.ensures.to

pub returns-in-Err-carry-clause-stopped : goal.returns-in-Err-carry-clause-stopped
returns-in-Err-carry-clause-stopped g c =
    rw c.turned_fault.ensures.end
    (stopped_back c.in-Err-carry.fault.end c.args.start _ _ c.args.from.now c.carry.new.from c.carry-2.new.to
    c.args.to.now c.carry.new.to c.carry-2.new.from c.in-Ok.ensures.carried c.turned.ensures.from c.turned.ensures.to
    c.in-Err-carry.ensures.stopped)
