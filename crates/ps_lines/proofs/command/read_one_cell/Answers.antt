use Rattle.std.proofs.Common.{Some, refl}
use Rattle.ps_lines.proofs.NamesAreWords.{name_is_word}
use Rattle.ps_lines.proofs.WordCounts.{cell_more}
use Rattle.ps_lines.proofs.command.read_one_cell.Goals as goal

pub returns-in-Some : goal.returns-in-Some
returns-in-Some c =
    let cell = c.in-Some.cell in
    let named = (c.in-Some.ensures cell).0 refl in
    rw (name_is_word c.args.rest.now cell named.0 named.1) (Some cell, c.in-Some.ensures, refl)

pub returns-in_default-Some : goal.returns-in_default-Some
returns-in_default-Some c =
    rw (c.split_word.ensures.words, c.in_default-Some.is-1)
    (cell_more c.split_word.result.0.now c.in_default-Some.field-0-1.now)
