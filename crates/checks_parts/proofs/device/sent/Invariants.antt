use Rattle.checks_parts.proofs.device.sent.Given as goal

abbrev pub ghosts-hands_on : goal.ghosts-hands_on
ghosts-hands_on a = record { name = a.blank.name; parts = a.blank.parts }
