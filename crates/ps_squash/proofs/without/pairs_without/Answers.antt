use Rattle.std.proofs.Common.{◌≡◌, ℕ, ◌∙◌, ap, subst, true, rules}
use Rattle.std.specs.Prelude.{◌==◌, filter, not}
use Rattle.std.specs.FinMap as map
use Rattle.ps_lattice.specs.declared.choice.Pair.{Pair}
use Rattle.ps_lattice.specs.Choice.{is_choice, is_pair}
use Rattle.ps_lattice.specs.ChoiceLaws.{pairs_apart, pairs_total}
use Rattle.ps_squash.proofs.SelectLemmas.{kept_in_range, kept_keys, made_value, some_made}
use Rattle.ps_squash.proofs.without.pairs_without.Goals as goal

pub unwrap-requires : goal.unwrap-requires
unwrap-requires c =
    let kept = c.in_ok-others.ensures ∙ ap (filter (λ e. not (e.0.replica == c.args.replica))) c.parts.ensures.value in
    some_made _ _ _ c.in_ok-choice.ensures.ok
    (kept_in_range c.args.choice.now (λ (p : Pair). not (p.replica == c.args.replica)) is_pair c.in_ok-others.others.items kept
    (subst (λ es. is_choice es ≡ true) c.parts.ensures.value c.parts.ensures.in_range))

pub returns-clause-rest : goal.returns-clause-rest
returns-clause-rest c =
    let kept = c.in_ok-others.ensures ∙ ap (filter (λ e. not (e.0.replica == c.args.replica))) c.parts.ensures.value in
    made_value _ _ _ _ c.in_ok-choice.ensures.ok c.unwrap.ensures
    ∙ kept_keys pairs_total pairs_apart c.args.choice.now (λ (p : Pair). not (p.replica == c.args.replica)) c.in_ok-others.others.items kept
