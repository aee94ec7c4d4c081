use Rattle.ps_commands.proofs.check.check_on.Given as goal

abbrev pub ghosts-compare_streams-I-Ledger : goal.ghosts-compare_streams-I-Ledger
ghosts-compare_streams-I-Ledger g a = record { name = a.first.input.name; parts = a.first.input.parts }

abbrev pub ghosts-compare_streams-O-Ledger : goal.ghosts-compare_streams-O-Ledger
ghosts-compare_streams-O-Ledger g a = record { name = a.first.output.name; parts = a.first.output.parts }

abbrev pub ghosts-compare_streams-J-Ledger : goal.ghosts-compare_streams-J-Ledger
ghosts-compare_streams-J-Ledger g a = record { name = a.second.input.name; parts = a.second.input.parts }

abbrev pub ghosts-compare_streams-P-Ledger : goal.ghosts-compare_streams-P-Ledger
ghosts-compare_streams-P-Ledger g a = record { name = a.second.output.name; parts = a.second.output.parts }
