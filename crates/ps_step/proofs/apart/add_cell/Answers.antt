use Rattle.std.proofs.Common.{◌≡◌, ◌∙◌, ap, arith, sym, true≢false}
use Rattle.std.proofs.lemmas.Grind.{common_steps}
use Rattle.ps_delta.specs.State.{state_at}
use Rattle.ps_step.proofs.ApartLemmas.{apart_more}
use Rattle.ps_step.proofs.apart.add_cell.Goals as goal

pub returns-clause-more : goal.returns-clause-more
returns-clause-more c =
    let place : c.unwrap-cell.result ≡ c.args.index = grind (arith, common_steps) in
    let one_is = c.at.ensures.value ∙ ap (state_at c.args.one.now) place in
    let other_is = c.at-2.ensures.value ∙ ap (state_at c.args.other.now) place in
    rw (c.in_ok-push.ensures.items, place)
    (apart_more (state_at c.args.one.now) (state_at c.args.other.now) c.args.index _ c.requires.before
    (λ same. true≢false (sym (c.holds_same.ensures.1 (one_is ∙ same ∙ sym other_is)) ∙ c.if-holds_same.false)))
