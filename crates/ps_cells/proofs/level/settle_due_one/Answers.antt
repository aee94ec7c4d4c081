use Rattle.std.proofs.Common.{[], ◌∷◌, subst}
use Rattle.ps_delta.specs.State.{state_at}
use Rattle.ps_region.specs.Listed.{listed}
use Rattle.ps_shown.specs.Shown.{shown_at}
use Rattle.ps_cells.specs.Inside.Steps.{flag_at, ShowsAll, values_at}
use Rattle.ps_cells.proofs.level.settle_due_one.Goals as goal

pub returns-clause-shows : goal.returns-clause-shows
returns-clause-shows g c =
    let cells = c.args.cell ∷ [] in
    let list = listed c.args.inputs.now.index.now in
    let t = state_at c.args.inputs.now.grid.now in
    let u2 = shown_at c.show_one.new.shown.kept in
    let flags = flag_at c.args.flags.now in
    let flags2 = flag_at c.show_one.new.flags in
    subst
    (λ w. ShowsAll c.args.is_last list cells (values_at t (shown_at w.kept) cells) (shown_at w.kept) u2 flags flags2)
    c.remember_sums_of.ensures
    (subst (λ vs. ShowsAll c.args.is_last list cells vs (shown_at c.remember_sums_of.new.shown.kept) u2 flags flags2)
    c.evaluate_one-kept.ensures.value c.show_one.ensures.shows)
