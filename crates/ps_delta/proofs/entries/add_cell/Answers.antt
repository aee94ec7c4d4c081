use Rattle.std.proofs.Common.{◌≡◌, ◌∙◌, ap, arith, rules, sym}
use Rattle.std.proofs.lemmas.Grind.{common_steps}
use Rattle.ps_delta.specs.State.{state_at}
use Rattle.ps_delta.proofs.FirstLemmas.{first_more, first_same}
use Rattle.ps_delta.proofs.entries.add_cell.Goals as goal

pub returns-then-is_empty-clause-more : goal.returns-then-is_empty-clause-more
returns-then-is_empty-clause-more c =
    let place : c.unwrap-cell.result ≡ c.args.index = grind (arith, common_steps) in
    first_same (state_at c.args.grid.now) c.args.index _ c.requires.before _
    (c.at-state.ensures.value ∙ ap (state_at c.args.grid.now) place) (c.is_empty.ensures.0 c.if-is_empty.true)

pub returns-clause-more : goal.returns-clause-more
returns-clause-more c =
    let place : c.unwrap-cell.result ≡ c.args.index = grind (arith, common_steps) in
    let is = c.in_ok-twin.ensures.equal ∙ c.at-state.ensures.value ∙ ap (state_at c.args.grid.now) place in
    rw (c.in_ok-push.ensures.items, place)
    (first_more (state_at c.args.grid.now) c.args.index _ c.requires.before _ is
    (λ empty. absurd
    (search (rules, c.is_empty.ensures.1 (sym c.in_ok-twin.ensures.equal ∙ empty), c.if-is_empty.false))))
