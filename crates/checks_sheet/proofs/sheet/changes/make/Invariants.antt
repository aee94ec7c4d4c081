use Rattle.checks_sheet.proofs.sheet.changes.make.Given as goal

abbrev pub ghosts-made : goal.ghosts-made
ghosts-made g a = record { name = a.blank.name; parts = a.blank.parts }
