use Rattle.std.proofs.Common.{[], ◌∷◌, ◌++◌, sym, ap, ◌∙◌, arith}
use Rattle.std.specs.Fmt.{decimal}
use Rattle.std.proofs.lemmas.Fmt.{length-decimal-le}
use Rattle.ps_grid.specs.Place.{column_name}
use Rattle.ps_grid.proofs.NameLemmas.{column_name-two, take-two}
use Rattle.ps_grid.proofs.cell.Cell.write.Goals as goal

pub put_decimal-requires : goal.put_decimal-requires
put_decimal-requires c =
    omega (
      arith,
      length-decimal-le 4 c.row-row.result (omega arith)
          (omega (arith, c.row-row.ensures.in_grid)) (omega (arith, c.row-row.ensures.in_grid)),
    )

pub put_decimal-requires-else-column-lt-LETTERS : goal.put_decimal-requires-else-column-lt-LETTERS
put_decimal-requires-else-column-lt-LETTERS c =
    omega (
      arith,
      length-decimal-le 4 c.row-row.result (omega arith)
          (omega (arith, c.row-row.ensures.in_grid)) (omega (arith, c.row-row.ensures.in_grid)),
    )

-- two letters and the digits
pub returns-else-column-lt-LETTERS-clause-name : goal.returns-else-column-lt-LETTERS-clause-name
returns-else-column-lt-LETTERS-clause-name c =
    let first = c.letter-else-column-lt-LETTERS.ensures in
    let second = c.letter-else-column-lt-LETTERS-2.ensures in
    let column = c.column-column.ensures.column in
    let row = c.row-row.ensures.row in
    let letters =
    ap column_name (sym column)
    ∙ column_name-two c.column-column.result c.if-column-lt-LETTERS.false
    ∙ (λ i. sym first i ∷ sym second i ∷ []) in
    c.put_decimal-else-column-lt-LETTERS.ensures.digits
    ∙ ap (λ l. l ++ decimal c.row-row.result)
    (take-two c.args.out.now c.letter-else-column-lt-LETTERS.result c.letter-else-column-lt-LETTERS-2.result
    (omega arith))
    ∙ (λ i. sym letters i ++ decimal (row i))
