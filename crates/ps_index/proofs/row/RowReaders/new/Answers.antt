use Rattle.ps_index.proofs.RowsInOrder.{row_start}
use Rattle.ps_index.proofs.row.RowReaders.new.Goals as goal

pub invariant_of-result : goal.invariant_of-result
invariant_of-result c = rw (c.kept_at-kept.ensures.from, c.kept_at-kept.ensures.to)
    (row_start _ _ _ c.requires.column c.requires.some c.requires.in_grid)
