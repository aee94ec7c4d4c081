use Rattle.std.proofs.Common.{sym, subst}
use Rattle.ps_region.specs.Listed.{listed}
use Rattle.ps_shown.specs.Shown.{shown_at}
use Rattle.ps_workers.specs.Level.{kept_values}
use Rattle.ps_cells.specs.Inside.Steps.{flag_at, ShowsAll}
use Rattle.ps_cells.proofs.level.show_due.Goals as goal

pub returns-then-is_last-clause-shows : goal.returns-then-is_last-clause-shows
returns-then-is_last-clause-shows c =
    let flags = flag_at c.args.flags.now in
    subst
    (λ last. ShowsAll last (listed c.args.index.now) c.args.cells.now (kept_values c.args.values.now)
    (shown_at c.args.shown.now.kept) (shown_at c.put_all.new.shown.kept) flags flags)
    (sym c.if-is_last.true) (c.put_all.ensures.shows (listed c.args.index.now) flags)

pub returns-else-is_last-clause-shows : goal.returns-else-is_last-clause-shows
returns-else-is_last-clause-shows c =
    subst
    (λ last. ShowsAll last (listed c.args.index.now) c.args.cells.now (kept_values c.args.values.now)
    (shown_at c.args.shown.now.kept) (shown_at c.show_all.new.shown.kept) (flag_at c.args.flags.now)
    (flag_at c.show_all.new.flags))
    (sym c.if-is_last.false) c.show_all.ensures.shows
