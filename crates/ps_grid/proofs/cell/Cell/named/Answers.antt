use Rattle.std.proofs.Common.{◌≡◌, ap, ◌∙◌, arith}
use Rattle.std.specs.Fmt.{decimal}
use Rattle.ps_grid.specs.Place.{column_name, column_of, row_of}
use Rattle.ps_grid.proofs.cell.Cell.named.Goals as goal

pub overflow_sub-from : goal.overflow_sub-from
overflow_sub-from c =
    let row = (c.row_named.ensures c.in_ok-row.row).0 c.in_ok-row.was in
    let above = row.0 in
    omega (arith, above, c.from-2.ensures)

pub at-requires-clause-column : goal.at-requires-clause-column
at-requires-clause-column c =
    let column = (c.column_named.ensures c.in_ok-column.column).0 c.in_ok-column.was in
    let inside = column.0 in
    omega (arith, inside, c.from.ensures)

pub at-requires-clause-row : goal.at-requires-clause-row
at-requires-clause-row c =
    let row = (c.row_named.ensures c.in_ok-row.row).0 c.in_ok-row.was in
    let above = row.0 in
    let inside = row.1 in
    omega (arith, above, inside, c.from-2.ensures)

pub returns : goal.returns
returns c = λ cell.
    let column = (c.column_named.ensures c.in_ok-column.column).0 c.in_ok-column.was in
    let row = (c.row_named.ensures c.in_ok-row.row).0 c.in_ok-row.was in
    let left = column.0 in
    let above = row.0 in
    let below = row.1 in
    let at = c.at.ensures in
    let from = c.from.ensures in
    let from2 = c.from-2.ensures in (
      λ e.
          let same : c.at.result ≡ cell = cc in
          let of_column : c.in_ok-column.column ≡ column_of cell = omega (arith, same, at, from, from2, left, above) in
          let of_row : c.in_ok-row.row ≡ row_of cell = omega (arith, same, at, from, from2, left, above) in (
            omega (arith, same, at, from, from2, left, above, below),
            column.1 ∙ ap column_name of_column,
            row.2 ∙ ap decimal of_row,
          ),
      λ h.
          let inside = h.0 in
          let is_column = (c.column_named.ensures (column_of cell)).1 (omega (arith, inside), h.1) in
          let is_row = (c.row_named.ensures (row_of cell)).1
          (omega (arith, inside), omega (arith, inside), h.2) in
          let was_column = c.in_ok-column.was in
          let was_row = c.in_ok-row.was in
          let same_column : c.in_ok-column.column ≡ column_of cell = cc in
          let same_row : c.in_ok-row.row ≡ row_of cell = cc in
          let same : c.at.result ≡ cell = omega (arith, same_column, same_row, at, from, from2, above) in
          cc,
    )
