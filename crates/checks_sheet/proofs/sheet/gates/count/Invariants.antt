use Rattle.checks_sheet.proofs.sheet.gates.count.Given as goal

abbrev pub ghosts-prepared_by : goal.ghosts-prepared_by
ghosts-prepared_by g a = record { name = a.blank.name; parts = a.blank.parts }
