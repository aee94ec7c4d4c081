use Rattle.sheet.proofs.run_command.Given as goal

abbrev pub ghosts-on_standard-I-Ledger : goal.ghosts-on_standard-I-Ledger
ghosts-on_standard-I-Ledger g a = record { name = a.counts.input.name; parts = a.counts.input.parts }

abbrev pub ghosts-on_standard-O-Ledger : goal.ghosts-on_standard-O-Ledger
ghosts-on_standard-O-Ledger g a = record { name = a.counts.output.name; parts = a.counts.output.parts }

abbrev pub ghosts-on_standard-M-Ledger : goal.ghosts-on_standard-M-Ledger
ghosts-on_standard-M-Ledger g a = record { name = a.counts.evaluations.name; parts = a.counts.evaluations.parts }

abbrev pub ghosts-on_standard-H-Ledger : goal.ghosts-on_standard-H-Ledger
ghosts-on_standard-H-Ledger g a = record { name = a.counts.held.name; parts = a.counts.held.parts }

abbrev pub ghosts-check_ends : goal.ghosts-check_ends
ghosts-check_ends g a = record { name = a.counts.output.name; parts = a.counts.output.parts }
