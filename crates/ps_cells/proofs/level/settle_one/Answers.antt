use Rattle.std.proofs.Common.{◌≡◌, true, false, subst}
use Rattle.ps_delta.specs.State.{state_at}
use Rattle.ps_region.specs.Listed.{listed}
use Rattle.ps_shown.specs.Shown.{shown_at}
use Rattle.ps_cells.specs.Inside.Steps.{flag_at}
use Rattle.ps_cells.proofs.LevelSteps.{none_stepped, one_stepped}
use Rattle.ps_cells.proofs.level.settle_one.Goals as goal

pub returns-then-not-flags-index-clause-settled : goal.returns-then-not-flags-index-clause-settled
returns-then-not-flags-index-clause-settled g c =
    let flags = flag_at c.args.flags.now in
    none_stepped (state_at c.args.inputs.now.grid.now) (listed c.args.inputs.now.index.now) c.args.cell c.args.is_last
    (shown_at c.args.shown.now.kept) flags
    (subst (λ q. flags q ≡ false) c.index.ensures.index c.if-not-flags-index.true)

pub returns-clause-settled : goal.returns-clause-settled
returns-clause-settled g c =
    let flags = flag_at c.args.flags.now in
    one_stepped (state_at c.args.inputs.now.grid.now) (listed c.args.inputs.now.index.now) c.args.cell c.args.is_last
    (shown_at c.args.shown.now.kept) (shown_at c.settle_due_one.new.shown.kept) flags
    (flag_at c.settle_due_one.new.flags)
    (subst (λ q. flags q ≡ true) c.index.ensures.index c.if-not-flags-index.false)
    c.settle_due_one.ensures.shows
