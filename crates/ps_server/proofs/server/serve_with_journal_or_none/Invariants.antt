use Rattle.ps_server.proofs.server.serve_with_journal_or_none.Given as goal

abbrev pub ghosts-serve_parts-L-Ledger : goal.ghosts-serve_parts-L-Ledger
ghosts-serve_parts-L-Ledger g a = record { name = a.parts.ledger; parts = a.parts.seats }

abbrev pub ghosts-serve_parts-L-Named : goal.ghosts-serve_parts-L-Named
ghosts-serve_parts-L-Named g a = record { book = a.parts.book; opening = a.parts.sheet.history }

abbrev pub ghosts-serve_parts-L-DeskName : goal.ghosts-serve_parts-L-DeskName
ghosts-serve_parts-L-DeskName g a = record { replica = a.parts.sheet.replica }
