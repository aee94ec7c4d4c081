use Rattle.std.proofs.Common.{refl, arith}
use Rattle.std.proofs.lemmas.Bool.Decides.{nat_tests}
use Rattle.ps_grid.proofs.RowLemmas.{no_row, row_is_short, row_has_no_zero, row_is_numeral, row_of_value}
use Rattle.ps_grid.proofs.cell.row_named.Goals as goal

pub returns-then-digits-gt-NAME_BYTES : goal.returns-then-digits-gt-NAME_BYTES
returns-then-digits-gt-NAME_BYTES c =
    no_row c.args.digits.now _ refl (λ row above inside is.
    omega (arith, row_is_short _ row above inside is))

pub returns-then-is_empty : goal.returns-then-is_empty
returns-then-is_empty c =
    no_row c.args.digits.now _ refl (λ row above inside is.
    let numeral = row_is_numeral _ row above inside is in
    let some = numeral.0.0 in
    grind (arith, nat_tests, some))

pub returns-then-digits-eq48 : goal.returns-then-digits-eq48
returns-then-digits-eq48 c =
    no_row c.args.digits.now _ refl (λ row above inside is.
    row_has_no_zero _ row above inside is c.if-digits-eq48.true)

pub returns-in_err-row : goal.returns-in_err-row
returns-in_err-row c =
    no_row c.args.digits.now _ c.from_residual.ensures (λ row above inside is.
    let numeral = row_is_numeral _ row above inside is in
    (rw c.in_err-row.was at c.read_digits.ensures) (numeral.0, omega (arith, numeral.1)))

pub returns-then-row : goal.returns-then-row
returns-then-row c =
    no_row c.args.digits.now _ refl (λ row above inside is.
    let found = rw c.in_ok-row.was at c.read_digits.ensures in
    let numeral = row_is_numeral _ row above inside is in
    omega (arith, found.1, numeral.1, c.if-row.true))

pub returns : goal.returns
returns c =
    let found = rw c.in_ok-row.was at c.read_digits.ensures in
    row_of_value c.args.digits.now _ found.0.0 c.if-digits-eq48.false found.1 c.if-row.false
