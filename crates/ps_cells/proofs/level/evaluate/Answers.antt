use Rattle.std.proofs.Common.{◌∙◌}
use Rattle.ps_delta.specs.State.{state_at}
use Rattle.ps_shown.specs.Shown.{shown_at}
use Rattle.ps_cells.proofs.LevelSteps.{formula_values}
use Rattle.ps_cells.proofs.level.evaluate.Goals as goal

pub returns-clause-values : goal.returns-clause-values
returns-clause-values g c =
    c.eval_level.ensures.values
    ∙ formula_values (state_at c.args.grid.now) (shown_at c.args.shown.now.kept) c.args.cells.now c.requires.formulas
