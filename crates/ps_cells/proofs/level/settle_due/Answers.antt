use Rattle.std.proofs.Common.{subst}
use Rattle.ps_delta.specs.State.{state_at}
use Rattle.ps_region.specs.Listed.{listed}
use Rattle.ps_shown.specs.Shown.{shown_at}
use Rattle.ps_cells.specs.Inside.Steps.{flag_at, ShowsAll, values_at}
use Rattle.ps_cells.proofs.level.settle_due.Goals as goal

pub returns-clause-shows : goal.returns-clause-shows
returns-clause-shows g c =
    subst
    (λ w. ShowsAll c.args.due.now.is_last (listed c.args.inputs.now.index.now) c.args.due.now.cells.now
    (values_at (state_at c.args.inputs.now.grid.now) (shown_at w.kept) c.args.due.now.cells.now)
    (shown_at w.kept) (shown_at c.show_due.new.shown.kept) (flag_at c.args.flags.now)
    (flag_at c.show_due.new.flags))
    c.remember_sums.ensures
    (subst
    (λ vs. ShowsAll c.args.due.now.is_last (listed c.args.inputs.now.index.now) c.args.due.now.cells.now vs
    (shown_at c.remember_sums.new.shown.kept) (shown_at c.show_due.new.shown.kept) (flag_at c.args.flags.now)
    (flag_at c.show_due.new.flags))
    c.evaluate.ensures.values c.show_due.ensures.shows)
