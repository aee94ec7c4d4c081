use Rattle.std.proofs.Common.{arith, rules}
use Rattle.ps_wire.specs.Length.{bare_value}
use Rattle.ps_wire.proofs.SizeLemmas.{taken_all, taken_over}
use Rattle.ps_wire.proofs.length.bare_cells_left.Goals as goal

pub returns-in_err-bare_left : goal.returns-in_err-bare_left
returns-in_err-bare_left c =
    let over = taken_over bare_value c.args.cells.now c.loop-cell.cell-index c.cell-item.result c.loop-cell.left
    c.args.room (omega arith) c.cell-item.is c.loop-cell.invariant
    (λ fits. c.in_err-bare_left.ensures (omega (arith, fits))) in
    search (rules, over)

pub returns-in_err-left-2 : goal.returns-in_err-left-2
returns-in_err-left-2 c =
    let after = c.in_ok-bare_left.ensures in
    let over = taken_over bare_value c.args.cells.now c.loop-cell.cell-index c.cell-item.result c.loop-cell.left
    c.args.room (omega arith) c.cell-item.is c.loop-cell.invariant
    (λ fits. c.in_err-left-2.ensures (omega (arith, fits, after.0, after.1))) in
    search (rules, over)

pub returns : goal.returns
returns c =
    taken_all bare_value c.args.cells.now c.loop-cell.cell-index c.loop-cell.left c.args.room
    (omega (arith, c.requires)) (omega arith) c.loop-cell.invariant
