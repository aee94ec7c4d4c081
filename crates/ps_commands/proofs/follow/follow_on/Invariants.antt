use Rattle.ps_commands.proofs.follow.follow_on.Given as goal

abbrev pub ghosts-follow_stream-I-Ledger : goal.ghosts-follow_stream-I-Ledger
ghosts-follow_stream-I-Ledger g a = record { name = a.stream.input.name; parts = a.stream.input.parts }

abbrev pub ghosts-follow_stream-O-Ledger : goal.ghosts-follow_stream-O-Ledger
ghosts-follow_stream-O-Ledger g a = record { name = a.stream.output.name; parts = a.stream.output.parts }
