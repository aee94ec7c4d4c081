use Rattle.ps_lines.proofs.WordCounts.{line_alone}
use Rattle.ps_lines.proofs.command.Command.read.Goals as goal

pub returns-in-None-clause-read : goal.returns-in-None-clause-read
returns-in-None-clause-read c =
    line_alone c.args.line.now c.split_word.result.0.now c.in-Some.verb c.read_alone.result
    c.read_alone.ensures.read c.split_word.ensures.word c.in-Some.ensures
    (rw c.in-None.is at c.split_word.ensures.words)

pub returns-in-None-clause-memory : goal.returns-in-None-clause-memory
returns-in-None-clause-memory c = λ is. absurd (c.read_alone.ensures.ample is)
