use Rattle.std.proofs.Common.{[], ◌∷◌, sym, ◌∙◌}
use Rattle.ps_shown.specs.Shown.{shown_at}
use Rattle.ps_cells.proofs.AloneChanges.{put_sole, recalculates_alone}
use Rattle.ps_cells.proofs.tables.Tables.show_sole.Goals as goal

pub returns-clause-done : goal.returns-clause-done
returns-clause-done c =
    let no = c.none.ensures in
    recalculates_alone c.args.self.now ((c.args.cell, c.args.kept) ∷ []) c.put.new.self c.requires.may c.requires.alone
    c.requires.none (c.put.ensures.shown ∙ sym (put_sole (shown_at c.args.self.now.shown.kept) c.args.cell c.args.kept))
    c.none.result.evaluated c.none.result.cyclic c.none.result.levels no.evaluated no.cyclic no.levels
