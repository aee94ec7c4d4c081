use Rattle.std.proofs.Common.{take}
use Rattle.csv.specs.Records.{fields_of}
use Rattle.ps_delta.specs.Deltas.{joined_history}
use Rattle.ps_csv.specs.Records.{FieldsSay}
use Rattle.ps_csv.proofs.fields.read_record.Given as goal

abbrev pub invariant-loop-j : goal.invariant-loop-j
invariant-loop-j g l = FieldsSay (joined_history l.sheet.history) l.n 0 (take l.j (fields_of l.fields)) l.cells.items
