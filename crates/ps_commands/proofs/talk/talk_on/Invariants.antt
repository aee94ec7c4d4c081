use Rattle.ps_commands.proofs.talk.talk_on.Given as goal

abbrev pub ghosts-talk_stream-J-Ledger : goal.ghosts-talk_stream-J-Ledger
ghosts-talk_stream-J-Ledger g a = record { name = a.stream.input.name; parts = a.stream.input.parts }

abbrev pub ghosts-talk_stream-O-Ledger : goal.ghosts-talk_stream-O-Ledger
ghosts-talk_stream-O-Ledger g a = record { name = a.stream.output.name; parts = a.stream.output.parts }
