use Rattle.ps_shown.specs.Shown.{shown_at}
use Rattle.ps_cells.proofs.ChangeLists.{changed_by_one}
use Rattle.ps_cells.proofs.LevelSteps.{sole}
use Rattle.ps_cells.proofs.screen.one_differing.Goals as goal

pub returns-in-len1 : goal.returns-in-len1
returns-in-len1 c = record {
  changed = changed_by_one c.args.olds.now c.old-item.result (shown_at c.args.shown.now) c.other.result
      (sole c.args.olds.now c.old-item.result c.in-len1.len_at_least c.in-len1.len_below c.old-item.is)
      c.other.ensures.other;
}
