use Rattle.ps_commands.proofs.relay.relay_anew.Given as goal

abbrev pub ghosts-relay_stream-I-Ledger : goal.ghosts-relay_stream-I-Ledger
ghosts-relay_stream-I-Ledger g a = record { name = a.stream.input.name; parts = a.stream.input.parts }

abbrev pub ghosts-relay_stream-O-Ledger : goal.ghosts-relay_stream-O-Ledger
ghosts-relay_stream-O-Ledger g a = record { name = a.stream.output.name; parts = a.stream.output.parts }
