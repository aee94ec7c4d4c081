use Rattle.checks_sheet.proofs.sheet.changes.prepare.Given as goal

abbrev pub ghosts-prepared : goal.ghosts-prepared
ghosts-prepared g a = record { name = a.blank.name; parts = a.blank.parts }
