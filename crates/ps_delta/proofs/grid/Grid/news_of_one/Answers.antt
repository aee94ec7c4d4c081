use Rattle.std.proofs.Common.{◌≡◌, ◌≢◌, ◌∷◌, [], ◌∙◌, sym, refl, subst, true≢false}
use Rattle.ps_lattice.specs.News.{IsNewsOf}
use Rattle.ps_delta.specs.declared.cell_state.CellState.{CellState}
use Rattle.ps_delta.specs.State.{joined_cell, joined_state, state_at}
use Rattle.ps_delta.specs.Deltas.{Entries, state_of}
use Rattle.ps_delta.proofs.GridLemmas.{below_one}
use Rattle.ps_delta.proofs.NewsLemmas.{on_err, one_filled, one_news, one_not_below}
use Rattle.ps_delta.proofs.grid.Grid.news_of_one.Goals as goal

pub returns-then-below-clause-none : goal.returns-then-below-clause-none
returns-then-below-clause-none c = (
  λ t. below_one (state_at c.args.self.now) c.args.part.now
      (subst (λ (x : CellState). joined_cell x c.args.part.now.1 ≡ x) c.at-here.ensures.value
      (c.below.ensures.0 c.if-below.true)),
  λ below. refl,
)

pub of_filled-requires : goal.of_filled-requires
of_filled-requires c =
    one_filled (state_at c.args.self.now) c.args.part.now c.in_ok-new.new
    (subst (λ (x : CellState). IsNewsOf joined_cell x c.args.part.now.1 c.in_ok-new.new) c.at-here.ensures.value
    c.in_ok-new.ensures.ok)
    (subst (λ (x : CellState). joined_cell x c.args.part.now.1 ≢ x) c.at-here.ensures.value
    (λ h. true≢false (sym (c.below.ensures.1 h) ∙ c.if-below.false)))

pub returns-clause-news : goal.returns-clause-news
returns-clause-news c =
    subst (λ (es : Entries). IsNewsOf joined_state (state_at c.args.self.now) (state_of (c.args.part.now ∷ []))
    (state_of es)) (sym c.of_filled.ensures.made)
    (one_news (state_at c.args.self.now) c.args.part.now c.in_ok-new.new
    (subst (λ (x : CellState). IsNewsOf joined_cell x c.args.part.now.1 c.in_ok-new.new) c.at-here.ensures.value
    c.in_ok-new.ensures.ok))

pub returns-clause-none : goal.returns-clause-none
returns-clause-none c = (
  λ t. absurd (true≢false (sym t)),
  λ below. absurd (one_not_below (state_at c.args.self.now) c.args.part.now
      (subst (λ (x : CellState). joined_cell x c.args.part.now.1 ≢ x) c.at-here.ensures.value
      (λ h. true≢false (sym (c.below.ensures.1 h) ∙ c.if-below.false))) below),
)

pub returns-in_err-new-clause-asked : goal.returns-in_err-new-clause-asked
returns-in_err-new-clause-asked c =
    on_err c.from_residual.result
    (one_not_below (state_at c.args.self.now) c.args.part.now
    (subst (λ (x : CellState). joined_cell x c.args.part.now.1 ≢ x) c.at-here.ensures.value
    (λ h. true≢false (sym (c.below.ensures.1 h) ∙ c.if-below.false))))
