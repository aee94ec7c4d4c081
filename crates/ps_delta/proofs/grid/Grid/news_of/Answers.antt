use Rattle.std.proofs.Common.{sym, subst, true≢false, ◌∙◌}
use Rattle.std.proofs.lemmas.List.{take_all}
use Rattle.ps_lattice.specs.News.{IsNewsOf}
use Rattle.ps_delta.specs.State.{joined_state, state_at}
use Rattle.ps_delta.specs.Deltas.{state_of}
use Rattle.ps_delta.proofs.NewsLemmas.{on_err, found_none, found_news, walk-found_more, walk-found_same}
use Rattle.ps_delta.proofs.WalkLemmas.{walk-in_grid, walk-not_below}
use Rattle.ps_delta.proofs.grid.Grid.news_of.Goals.{then-not-below+in_ok-new+in_ok-push, else-not-below}
use Rattle.ps_delta.proofs.grid.Grid.news_of.Goals as goal

pub loop-part-init : goal.loop-part-init
loop-part-init c = rw c.new-cells.ensures.items (found_none _)

pub loop-part-preserved : goal.loop-part-preserved
loop-part-preserved c =
    elim c.if-not-below.branch [
      | then-not-below+in_ok-new+in_ok-push w ↦
          rw (w.cells-is, w.in_ok-push.ensures.items)
          (walk-found_more _ _ _ _ _ c.requires.0 c.loop-part-test.true c.part-item.is c.at-here.ensures.value _ _
          w.in_ok-new.ensures.ok (λ h. true≢false (sym (c.below.ensures.1 h) ∙ w.if-not-below.true))
          (walk-in_grid _ _ _ c.loop-part-test.true c.part-item.is c.requires.1) c.loop-part.invariant)
      | else-not-below w ↦
          rw w.cells-is
          (walk-found_same _ _ _ _ _ c.requires.0 c.loop-part-test.true c.part-item.is c.at-here.ensures.value _
          (c.below.ensures.0 w.if-not-below.false) c.loop-part.invariant)
    ]

pub returns-clause-news : goal.returns-clause-news
returns-clause-news c =
    let all = take_all c.loop-part.part-index c.args.parts.now c.loop-part-test.false in
    subst (λ es. IsNewsOf joined_state (state_at c.args.self.now) (state_of es) (state_of c.loop-part.cells.items)) all
    (found_news _ _ _ c.loop-part.invariant)

pub returns-in_err-new-clause-asked : goal.returns-in_err-new-clause-asked
returns-in_err-new-clause-asked c =
    on_err c.from_residual.result
    (walk-not_below _ _ _ _ _ c.requires.0 c.loop-part-test.true c.part-item.is c.at-here.ensures.value
    (λ h. true≢false (sym (c.below.ensures.1 h) ∙ c.if-not-below.true)))

pub returns-in_err-push-clause-asked : goal.returns-in_err-push-clause-asked
returns-in_err-push-clause-asked c =
    on_err c.from_residual-in_err-push.result
    (walk-not_below _ _ _ _ _ c.requires.0 c.loop-part-test.true c.part-item.is c.at-here.ensures.value
    (λ h. true≢false (sym (c.below.ensures.1 h) ∙ c.if-not-below.true)))
