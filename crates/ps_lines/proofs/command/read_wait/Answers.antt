use Rattle.ps_lines.proofs.WordCounts.{wait_more}
use Rattle.ps_lines.proofs.command.read_wait.Goals as goal

pub returns-in_default-Some : goal.returns-in_default-Some
returns-in_default-Some c =
    rw (c.split_word.ensures.words, c.in_default-Some.is-1)
    (wait_more c.split_word.result.0.now c.in_default-Some.field-0-1.now)
