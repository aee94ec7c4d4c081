use Rattle.std.proofs.Common.{◌-◌, arith}
use Rattle.ps_index.proofs.ColumnsSorted.{ends_rise, by_cell_within}
use Rattle.ps_index.proofs.column.place_at.Goals as goal

pub place_of-requires-clause-ordered : goal.place_of-requires-clause-ordered
place_of-requires-clause-ordered c = rw (c.kept_at-kept.ensures.from, c.kept_at-kept.ensures.to)
    (ends_rise _ _ _ c.requires.column.1 (c.args.row - 1) c.args.row (record { from = 0; to = 0; cell = 0 })
    (omega arith) (omega arith))

pub place_of-requires-clause-within : goal.place_of-requires-clause-within
place_of-requires-clause-within c =
    rw c.kept_at-kept.ensures.to (c.requires.column.1.within c.args.row (omega arith))

pub place_of-requires-clause-by_cell : goal.place_of-requires-clause-by_cell
place_of-requires-clause-by_cell c = rw (c.kept_at-kept.ensures.from, c.kept_at-kept.ensures.to)
    (by_cell_within _ _ _ c.requires.column.1 c.args.row (omega arith) (omega arith))
