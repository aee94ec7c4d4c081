use Rattle.ps_cells.proofs.AloneChanges.{recalculates_alone}
use Rattle.ps_cells.proofs.tables.Tables.show_alone.Goals as goal

pub returns-clause-done : goal.returns-clause-done
returns-clause-done c =
    let no = c.none.ensures in
    recalculates_alone c.args.self.now c.args.first.now.items c.put_all_first.new.shown c.requires.may c.requires.alone
    c.requires.none c.put_all_first.ensures.put c.none.result.evaluated c.none.result.cyclic c.none.result.levels
    no.evaluated no.cyclic no.levels
