use Rattle.ps_shorten.proofs.in_place.squashed.Given as goal

abbrev pub ghosts-squashed_counted-I-Ledger : goal.ghosts-squashed_counted-I-Ledger
ghosts-squashed_counted-I-Ledger a = record { name = a.input.name; parts = a.input.parts }

abbrev pub ghosts-squashed_counted-O-Ledger : goal.ghosts-squashed_counted-O-Ledger
ghosts-squashed_counted-O-Ledger a = record { name = a.output.name; parts = a.output.parts }
