use Rattle.std.proofs.Common.{subst}
use Rattle.std.proofs.lemmas.Result.{IfOk-weaker, on_err_weaker}
use Rattle.ps_lattice.specs.News.{IsNewsOf}
use Rattle.ps_delta.specs.State.{joined_state, state_at}
use Rattle.ps_delta.specs.Deltas.{state_of}
use Rattle.ps_delta.proofs.NewsLemmas.{listed_not_below, made_delta, made_none}
use Rattle.ps_delta.proofs.grid.Grid.news.Goals as goal

pub returns-clause-delta : goal.returns-clause-delta
returns-clause-delta c =
    IfOk-weaker c.of_list.result _ _
    (λ o made. made_delta c.in_ok-cells.cells.items c.in_ok-cells.ensures.entries.0 o made) c.of_list.ensures.made

pub returns-clause-none : goal.returns-clause-none
returns-clause-none c =
    let w = subst (λ es. IsNewsOf joined_state (state_at c.args.self.now) (state_of es)
    (state_of c.in_ok-cells.cells.items)) c.parts-parts.ensures.value c.in_ok-cells.ensures.news in
    IfOk-weaker c.of_list.result _ _
    (λ o made. made_none (state_at c.args.self.now) (state_of c.args.delta.now) c.in_ok-cells.cells.items
    c.in_ok-cells.ensures.entries.0 w o made) c.of_list.ensures.made

pub returns-clause-asked : goal.returns-clause-asked
returns-clause-asked c =
    let w = subst (λ es. IsNewsOf joined_state (state_at c.args.self.now) (state_of es)
    (state_of c.in_ok-cells.cells.items)) c.parts-parts.ensures.value c.in_ok-cells.ensures.news in
    on_err_weaker c.of_list.result
    (listed_not_below (state_at c.args.self.now) (state_of c.args.delta.now) c.in_ok-cells.cells.items
    c.in_ok-cells.ensures.entries.0 w) c.of_list.ensures.asked
