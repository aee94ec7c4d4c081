use Rattle.ps_csv.specs.Inside.{HasWritten}
use Rattle.ps_csv.proofs.ExportLemmas.{first_records}
use Rattle.ps_csv.proofs.rows.text_with.Given as goal

abbrev pub invariant-loop-k : goal.invariant-loop-k
invariant-loop-k g l = HasWritten l.writer (first_records (g.T.CellText.text_at l.texts) l.rect l.k)
