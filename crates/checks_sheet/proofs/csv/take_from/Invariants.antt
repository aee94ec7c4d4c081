use Rattle.checks_sheet.proofs.csv.take_from.Given as goal

abbrev pub ghosts-taken-I-Ledger : goal.ghosts-taken-I-Ledger
ghosts-taken-I-Ledger g a = record { name = a.input.name; parts = a.input.parts }

abbrev pub ghosts-taken-M-Ledger : goal.ghosts-taken-M-Ledger
ghosts-taken-M-Ledger g a = record { name = a.evaluations.name; parts = a.evaluations.parts }
