use Rattle.ps_commands.proofs.join.join_once_on.Given as goal

abbrev pub ghosts-join_streams_once-I-Ledger : goal.ghosts-join_streams_once-I-Ledger
ghosts-join_streams_once-I-Ledger g a = record { name = a.first.input.name; parts = a.first.input.parts }

abbrev pub ghosts-join_streams_once-O-Ledger : goal.ghosts-join_streams_once-O-Ledger
ghosts-join_streams_once-O-Ledger g a = record { name = a.first.output.name; parts = a.first.output.parts }

abbrev pub ghosts-join_streams_once-J-Ledger : goal.ghosts-join_streams_once-J-Ledger
ghosts-join_streams_once-J-Ledger g a = record { name = a.second.input.name; parts = a.second.input.parts }

abbrev pub ghosts-join_streams_once-P-Ledger : goal.ghosts-join_streams_once-P-Ledger
ghosts-join_streams_once-P-Ledger g a = record { name = a.second.output.name; parts = a.second.output.parts }
