use Rattle.std.proofs.Common.{rules}
use Rattle.ps_session.proofs.obey.obey.Goals as goal
use Rattle.ps_session.proofs.obey.obey.Goals.{in-Rows, in-Entry, in-Entries, in-Pull, in-Push, in-Merge}
use Rattle.ps_session.proofs.obey.obey.Goals.{in-Replica, in-Wait}

pub returns-clause-told : goal.returns-clause-told
returns-clause-told g c = elim c.match-command.branch [
  | in-Rows w ↦ search rules
  | in-Entry w ↦ search rules
  | in-Entries w ↦ search rules
  | in-Pull w ↦ search rules
  | in-Push w ↦ search rules
  | in-Merge w ↦ search rules
  | in-Replica w ↦ search rules
  | in-Wait w ↦ search rules
]
