use Rattle.std.proofs.Common.{sym}
use Rattle.ps_lines.proofs.WordLemmas.{divided_at, one_part, parts_at}
use Rattle.ps_lines.proofs.words.split_part.Goals as goal

pub returns-in-Some-clause-parts : goal.returns-in-Some-clause-parts
returns-in-Some-clause-parts c =
    parts_at c.args.separator c.args.text.now c.in-Some.place (sym c.in-Some.ensures)

pub returns-in-None-clause-parts : goal.returns-in-None-clause-parts
returns-in-None-clause-parts c = one_part c.args.separator c.args.text.now (sym c.in-None.ensures)

pub returns-in-Some-clause-whole : goal.returns-in-Some-clause-whole
returns-in-Some-clause-whole c =
    divided_at c.args.separator c.args.text.now c.in-Some.place (sym c.in-Some.ensures)
