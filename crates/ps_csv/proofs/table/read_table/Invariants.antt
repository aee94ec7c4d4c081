use Rattle.ps_delta.specs.Deltas.{joined_history}
use Rattle.ps_csv.proofs.TableLemmas.{IsReading}
use Rattle.ps_csv.proofs.table.read_table.Given as goal

abbrev pub invariant-loop-row : goal.invariant-loop-row
invariant-loop-row g l = IsReading (joined_history l.sheet.history) l.fn.bytes l.row-iterator l.table
