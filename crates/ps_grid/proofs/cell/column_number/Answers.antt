use Rattle.ps_grid.proofs.ColumnLemmas.{column_of_one, column_of_two, no_first, no_last}
use Rattle.ps_grid.proofs.cell.column_number.Goals as goal

pub returns-in-len1 : goal.returns-in-len1
returns-in-len1 c =
    column_of_one c.args.letters.now _ c.in-len1.len_at_least c.in-len1.len_below c.letter_number.ensures.number

pub returns-in_err-first-in-len2 : goal.returns-in_err-first-in-len2
returns-in_err-first-in-len2 c =
    no_first c.args.letters.now _ _ c.in-len2.len_at_least c.in-len2.len_below c.letter_number-in-len2.ensures.number
    c.in_err-first-in-len2.was c.from_residual.ensures

pub returns-in_err-last-in-len2 : goal.returns-in_err-last-in-len2
returns-in_err-last-in-len2 c =
    no_last c.args.letters.now _ _ c.in-len2.len_at_least c.in-len2.len_below
    c.letter_number-in-len2-2.ensures.number
    c.in_err-last-in-len2.was c.from_residual-in_err-last-in-len2.ensures

pub returns-in_ok-last-in-len2 : goal.returns-in_ok-last-in-len2
returns-in_ok-last-in-len2 c =
    column_of_two c.args.letters.now _ _ c.in_ok-first-in-len2.first c.in_ok-last-in-len2.last c.in-len2.len_at_least
    c.in-len2.len_below c.letter_number-in-len2.ensures.number c.letter_number-in-len2-2.ensures.number
    c.in_ok-first-in-len2.was c.in_ok-last-in-len2.was
