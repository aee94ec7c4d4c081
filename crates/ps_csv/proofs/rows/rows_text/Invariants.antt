use Rattle.ps_csv.proofs.rows.rows_text.Given as goal

abbrev pub ghosts-text_with : goal.ghosts-text_with
ghosts-text_with g a = record { name = a.blank.name; parts = a.blank.parts }
