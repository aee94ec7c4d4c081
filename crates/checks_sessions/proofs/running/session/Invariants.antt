use Rattle.checks_sessions.proofs.running.session.Given as goal

abbrev pub ghosts-ended-I-Ledger : goal.ghosts-ended-I-Ledger
ghosts-ended-I-Ledger g a = record { name = a.input.name; parts = a.input.parts }

abbrev pub ghosts-ended-O-Ledger : goal.ghosts-ended-O-Ledger
ghosts-ended-O-Ledger g a = record { name = a.output.name; parts = a.output.parts }

abbrev pub ghosts-ended-M-Ledger : goal.ghosts-ended-M-Ledger
ghosts-ended-M-Ledger g a = record { name = a.count.name; parts = a.count.parts }
