use Rattle.std.proofs.Common.{[], ◌∷◌, Some, ap, subst, sym, ◌∙◌}
use Rattle.ps_delta.specs.State.{state_at}
use Rattle.ps_squash.specs.Inside.{IsRead, sum_of}
use Rattle.ps_squash.proofs.SelectLemmas.{after_none}
use Rattle.ps_squash.proofs.intake.join_line.Goals as goal

pub returns-in-None-clause-joined : goal.returns-in-None-clause-joined
returns-in-None-clause-joined c = (
  [],
  subst (IsRead c.args.line.now) c.in-None.is c.in_ok-read_line.ensures.read,
  sym (after_none (sum_of (state_at c.args.taken.now.state) c.args.taken.now.still)),
)

pub returns-in-Some-Replica-clause-joined : goal.returns-in-Some-Replica-clause-joined
returns-in-Some-Replica-clause-joined c = (
  [],
  subst (IsRead c.args.line.now) (c.in-Some-Replica.is ∙ ap Some c.in-Some-Replica.field-0-is)
      c.in_ok-read_line.ensures.read,
  sym (after_none (sum_of (state_at c.args.taken.now.state) c.args.taken.now.still)),
)

pub returns-in_ok-add-in-Some-Push-clause-joined : goal.returns-in_ok-add-in-Some-Push-clause-joined
returns-in_ok-add-in-Some-Push-clause-joined c = (
  c.in-Some-Push.delta ∷ [],
  subst (IsRead c.args.line.now) (c.in-Some-Push.is ∙ ap Some c.in-Some-Push.field-0-is)
      c.in_ok-read_line.ensures.read,
  c.in_ok-add-in-Some-Push.ensures.joined,
)
