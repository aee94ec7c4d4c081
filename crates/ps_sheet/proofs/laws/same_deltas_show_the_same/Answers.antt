use Rattle.ps_sheet.proofs.AcceptedRuns.{same_taken}
use Rattle.ps_sheet.proofs.laws.same_deltas_show_the_same.Goals as goal

pub same_join_shows_the_same-requires : goal.same_join_shows_the_same-requires
same_join_shows_the_same-requires c = same_taken c.args.a.now.history c.args.b.now.history c.requires
