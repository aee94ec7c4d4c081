use Rattle.std.proofs.Common.{false, refl}
use Rattle.ps_join.proofs.JoinLemmas.{joined_once, joining_none}
use Rattle.ps_join.specs.Joins.{fresh}
use Rattle.ps_join.proofs.joining.join_once.Goals as goal

pub returns-in-Ok-clause-joined : goal.returns-in-Ok-clause-joined
returns-in-Ok-clause-joined g c =
    joined_once _ c.args.from.now c.carry_both.new.from c.args.to.now c.carry_both.new.to
    (c.in-Ok.ensures.carried false c.args.from.now c.args.to.now fresh fresh
    (joining_none false c.args.from.now c.args.to.now) refl refl) c.in-Ok.ensures.ended

pub returns-in-Err-clause-stopped : goal.returns-in-Err-clause-stopped
returns-in-Err-clause-stopped g c =
    c.in-Err.ensures.stopped false c.args.from.now c.args.to.now fresh fresh
    (joining_none false c.args.from.now c.args.to.now) refl refl
