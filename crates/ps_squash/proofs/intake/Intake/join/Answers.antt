use Rattle.std.proofs.Common.{subst, sym, ◌∙◌}
use Rattle.ps_squash.specs.Squashed.{Says}
use Rattle.ps_squash.proofs.LineLemmas.{told_says_none}
use Rattle.ps_squash.proofs.intake.Intake.join.Goals as goal

pub returns-then-is_some-clause-faulty : goal.returns-then-is_some-clause-faulty
returns-then-is_some-clause-faulty c = λ is deltas says.
    let joined = c.in_ok-told.ensures.joined in
    told_says_none c.line.result.now c.in_ok-told.told joined.0 (sym c.is_some.ensures ∙ c.if-is_some.true) joined.1
    deltas (subst (λ l. Says l deltas) (sym c.line.ensures) says)
