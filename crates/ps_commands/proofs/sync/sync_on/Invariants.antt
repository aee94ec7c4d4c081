use Rattle.ps_commands.proofs.sync.sync_on.Given as goal

abbrev pub ghosts-sync_between-I-Ledger : goal.ghosts-sync_between-I-Ledger
ghosts-sync_between-I-Ledger g a = record { name = a.first.input.name; parts = a.first.input.parts }

abbrev pub ghosts-sync_between-O-Ledger : goal.ghosts-sync_between-O-Ledger
ghosts-sync_between-O-Ledger g a = record { name = a.first.output.name; parts = a.first.output.parts }

abbrev pub ghosts-sync_between-J-Ledger : goal.ghosts-sync_between-J-Ledger
ghosts-sync_between-J-Ledger g a = record { name = a.second.input.name; parts = a.second.input.parts }

abbrev pub ghosts-sync_between-P-Ledger : goal.ghosts-sync_between-P-Ledger
ghosts-sync_between-P-Ledger g a = record { name = a.second.output.name; parts = a.second.output.parts }
