use Rattle.std.proofs.Common.{sym, ◌∙◌}
use Rattle.ps_delta.specs.State.{state_at}
use Rattle.ps_squash.proofs.SelectLemmas.{nothing_left}
use Rattle.ps_squash.proofs.taken.join_cell.Goals as goal

pub returns-then-is_empty-clause-joined : goal.returns-then-is_empty-clause-joined
returns-then-is_empty-clause-joined c =
    nothing_left c.args.replica (state_at c.args.state.now) c.args.entry.now
    (sym c.in_ok-kept.ensures.rest ∙ c.is_empty.ensures.0 c.if-is_empty.true)
