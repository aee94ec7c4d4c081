use Rattle.std.proofs.Common.{arith}
use Rattle.std.proofs.lemmas.List.{take_all}
use Rattle.ps_wire.specs.Value.{cell_value}
use Rattle.ps_wire.proofs.LengthLemmas.{size-each}
use Rattle.ps_wire.proofs.room.are_brief.Goals as goal

pub returns : goal.returns
returns c =
    let brief = rw (take_all c.loop-cell.cell-index c.args.cells.now c.loop-cell-test.false) at c.loop-cell.invariant in
    omega (
      arith,
      size-each cell_value 61 c.args.cells.now (λ k d within. omega (arith, brief k d within)),
      c.if-cells-gt-BRIEF_CELLS.false,
    )
