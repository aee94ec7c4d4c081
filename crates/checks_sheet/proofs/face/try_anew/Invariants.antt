use Rattle.std.specs.Prelude.{[]}
use Rattle.checks_sheet.proofs.face.try_anew.Given as goal

abbrev pub ghosts-try_on-L-Ledger : goal.ghosts-try_on-L-Ledger
ghosts-try_on-L-Ledger g a = record { name = 0; parts = 0 }

abbrev pub ghosts-try_on-L-Named : goal.ghosts-try_on-L-Named
ghosts-try_on-L-Named g a = record { book = a.opened; opening = [] }
