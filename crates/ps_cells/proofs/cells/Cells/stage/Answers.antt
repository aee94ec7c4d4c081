use Rattle.ps_cells.proofs.StagedOrWhole.{unstaged_is_whole}
use Rattle.ps_cells.proofs.cells.Cells.stage.Goals as goal

pub join-requires-clause-whole : goal.join-requires-clause-whole
join-requires-clause-whole g c κs within =
    unstaged_is_whole c.self.inside c.args.self.now c.self.view_is c.requires.none c.self.invariant
