use Rattle.checks_sessions.proofs.desk.over.Given as goal

abbrev pub ghosts-life-L-Ledger : goal.ghosts-life-L-Ledger
ghosts-life-L-Ledger g a = record { name = a.parts.ledger; parts = a.parts.seats }

abbrev pub ghosts-life-L-Named : goal.ghosts-life-L-Named
ghosts-life-L-Named g a = record { book = a.parts.book; opening = a.parts.sheet.history }

abbrev pub ghosts-life-L-DeskName : goal.ghosts-life-L-DeskName
ghosts-life-L-DeskName g a = record { replica = a.parts.sheet.replica }
