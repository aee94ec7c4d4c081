use Rattle.std.proofs.Common.{◌∙◌}
use Rattle.ps_delta.specs.State.{state_at}
use Rattle.ps_shown.specs.Shown.{shown_at}
use Rattle.ps_cells.proofs.LevelSteps.{formula_values_one}
use Rattle.ps_cells.proofs.level.evaluate_one.Goals as goal

pub returns-clause-value : goal.returns-clause-value
returns-clause-value g c =
    c.eval_cell.ensures.value
    ∙ formula_values_one (state_at c.args.grid.now) (shown_at c.args.shown.now.kept) c.args.cell c.requires.formula
