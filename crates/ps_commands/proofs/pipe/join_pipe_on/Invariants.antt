use Rattle.ps_commands.proofs.pipe.join_pipe_on.Given as goal

abbrev pub ghosts-pipe_once-I-Ledger : goal.ghosts-pipe_once-I-Ledger
ghosts-pipe_once-I-Ledger g a = record { name = a.stream.input.name; parts = a.stream.input.parts }

abbrev pub ghosts-pipe_once-O-Ledger : goal.ghosts-pipe_once-O-Ledger
ghosts-pipe_once-O-Ledger g a = record { name = a.stream.output.name; parts = a.stream.output.parts }

abbrev pub ghosts-pipe-I-Ledger : goal.ghosts-pipe-I-Ledger
ghosts-pipe-I-Ledger g a = record { name = a.stream.input.name; parts = a.stream.input.parts }

abbrev pub ghosts-pipe-O-Ledger : goal.ghosts-pipe-O-Ledger
ghosts-pipe-O-Ledger g a = record { name = a.stream.output.name; parts = a.stream.output.parts }
