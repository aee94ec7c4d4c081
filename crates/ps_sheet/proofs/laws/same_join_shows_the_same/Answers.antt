use Rattle.ps_sheet.proofs.AcceptedRuns.{same_shown}
use Rattle.ps_sheet.proofs.laws.same_join_shows_the_same.Goals as goal

pub returns : goal.returns
returns c = same_shown c.args.a.now c.args.b.now c.version.ensures.sheet c.version-2.ensures.sheet c.requires
