use Rattle.ps_commands.proofs.join.join_ends.Given as goal

abbrev pub ghosts-join_streams-I-Ledger : goal.ghosts-join_streams-I-Ledger
ghosts-join_streams-I-Ledger g a = record { name = a.first.input.name; parts = a.first.input.parts }

abbrev pub ghosts-join_streams-O-Ledger : goal.ghosts-join_streams-O-Ledger
ghosts-join_streams-O-Ledger g a = record { name = a.first.output.name; parts = a.first.output.parts }

abbrev pub ghosts-join_streams-J-Ledger : goal.ghosts-join_streams-J-Ledger
ghosts-join_streams-J-Ledger g a = record { name = a.second.input.name; parts = a.second.input.parts }

abbrev pub ghosts-join_streams-P-Ledger : goal.ghosts-join_streams-P-Ledger
ghosts-join_streams-P-Ledger g a = record { name = a.second.output.name; parts = a.second.output.parts }
