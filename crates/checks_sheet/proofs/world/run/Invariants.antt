use Rattle.checks_sheet.proofs.world.run.Given as goal

abbrev pub ghosts-metered : goal.ghosts-metered
ghosts-metered g a = record { name = a.blank.name; parts = a.blank.parts }
