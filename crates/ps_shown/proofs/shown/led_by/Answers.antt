use Rattle.std.proofs.Common.{[], ◌∷◌, Err, arith}
use Rattle.ps_shown.proofs.shown.led_by.Goals as goal

pub take_cell-requires : goal.take_cell-requires
take_cell-requires c = omega (arith, c.new-summary.ensures.counted)

pub join-requires-clause-room : goal.join-requires-clause-room
join-requires-clause-room c = omega (arith, c.new-summary.ensures.counted, c.take_cell.ensures.count)

pub returns : goal.returns
returns c = λ items known.
    c.join.ensures.items (Err c.args.fault ∷ []) items (c.take_cell.ensures.items [] c.new-summary.ensures) known
