use Rattle.ps_server.proofs.attend.attend.Given as goal

abbrev pub ghosts-attend_lines_of-I-Ledger : goal.ghosts-attend_lines_of-I-Ledger
ghosts-attend_lines_of-I-Ledger g a = record { name = a.counts.input.name; parts = a.counts.input.parts }

abbrev pub ghosts-attend_lines_of-O-Ledger : goal.ghosts-attend_lines_of-O-Ledger
ghosts-attend_lines_of-O-Ledger g a = record { name = a.counts.output.name; parts = a.counts.output.parts }

abbrev pub ghosts-attend_lines_of-N-Ledger : goal.ghosts-attend_lines_of-N-Ledger
ghosts-attend_lines_of-N-Ledger g a = record { name = a.counts.held.name; parts = a.counts.held.parts }

abbrev pub ghosts-attend_lines_of-M-Ledger : goal.ghosts-attend_lines_of-M-Ledger
ghosts-attend_lines_of-M-Ledger g a = record { name = a.counts.evaluations.name; parts = a.counts.evaluations.parts }

abbrev pub ghosts-attend_browser-I-Ledger : goal.ghosts-attend_browser-I-Ledger
ghosts-attend_browser-I-Ledger g a = record { name = a.counts.input.name; parts = a.counts.input.parts }

abbrev pub ghosts-attend_browser-O-Ledger : goal.ghosts-attend_browser-O-Ledger
ghosts-attend_browser-O-Ledger g a = record { name = a.counts.output.name; parts = a.counts.output.parts }

abbrev pub ghosts-attend_browser-N-Ledger : goal.ghosts-attend_browser-N-Ledger
ghosts-attend_browser-N-Ledger g a = record { name = a.counts.held.name; parts = a.counts.held.parts }

abbrev pub ghosts-attend_browser-M-Ledger : goal.ghosts-attend_browser-M-Ledger
ghosts-attend_browser-M-Ledger g a = record { name = a.counts.evaluations.name; parts = a.counts.evaluations.parts }
