use Rattle.std.proofs.Common.{◌≡◌, ℕ, ◌∙◌, ap, subst, true, rules}
use Rattle.std.specs.Prelude.{◌==◌, filter, not}
use Rattle.std.specs.FinMap as map
use Rattle.std.specs.FinMap.{nat_cmp-IsAntisymmetric}
use Rattle.std.specs.Cmp.{nat_cmp_total}
use Rattle.ps_lattice.specs.Tally.{is_count, is_tally}
use Rattle.ps_squash.proofs.SelectLemmas.{kept_in_range, kept_keys, made_value, some_made}
use Rattle.ps_squash.proofs.without.counts_without.Goals as goal

pub unwrap-requires : goal.unwrap-requires
unwrap-requires c =
    let kept = c.in_ok-others.ensures ∙ ap (filter (λ e. not (e.0 == c.args.replica))) (c.as_slice.ensures.value ∙ ap map.entries c.parts-parts.ensures.value) in
    some_made _ _ _ c.in_ok-tally.ensures.ok
    (kept_in_range c.args.tally.now (λ (r : ℕ). not (r == c.args.replica)) is_count c.in_ok-others.others.items kept
    (subst (λ t. is_tally (map.entries t) ≡ true) c.parts-parts.ensures.value c.parts-parts.ensures.in_range))

pub returns-clause-rest : goal.returns-clause-rest
returns-clause-rest c =
    let kept = c.in_ok-others.ensures ∙ ap (filter (λ e. not (e.0 == c.args.replica))) (c.as_slice.ensures.value ∙ ap map.entries c.parts-parts.ensures.value) in
    made_value _ _ _ _ c.in_ok-tally.ensures.ok c.unwrap.ensures
    ∙ kept_keys nat_cmp_total nat_cmp-IsAntisymmetric c.args.tally.now (λ (r : ℕ). not (r == c.args.replica)) c.in_ok-others.others.items kept
