use Rattle.std.proofs.Common.{ℕ, List}
use Rattle.ps_csv.specs.Inside.{HasWritten, IsWriting}
use Rattle.ps_csv.proofs.ExportLemmas.{first_fields}
use Rattle.ps_csv.proofs.rows.put_row.Given as goal

abbrev pub invariant-loop-j : goal.invariant-loop-j
invariant-loop-j g l = (text : List ℕ) → HasWritten l.fn.writer text
    → IsWriting l.writer text (first_fields (g.T.CellText.text_at l.texts) l.rect l.k l.j)
