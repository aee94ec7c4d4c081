use Rattle.std.proofs.Common.{◌≡◌, rules, subst, None}
use Rattle.ps_lines.specs.Feeding.{Holds, kept}
use Rattle.ps_squash.proofs.LineLemmas.{too_long, too_long_tells}
use Rattle.ps_squash.proofs.intake.Intake.close.Goals as goal

pub returns-in-TooLong-clause-faulty : goal.returns-in-TooLong-clause-faulty
returns-in-TooLong-clause-faulty c = λ number is raw holds.
    let long : kept raw ≡ None =
    subst (λ l. Holds l c.args.self.now.session raw) c.in-TooLong.is holds in
    (too_long raw long, λ none. too_long_tells raw long, search (rules, is, c.saturating_add-number.ensures))
