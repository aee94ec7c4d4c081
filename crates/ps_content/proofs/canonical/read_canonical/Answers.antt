use Rattle.std.proofs.Common.{ap, Some, Ok, Err, sym}
use Rattle.ps_content.proofs.CanonicalLemmas.{reads_back, not_written}
use Rattle.ps_content.proofs.canonical.read_canonical.Goals as goal

pub returns-then-is_written-clause-read : goal.returns-then-is_written-clause-read
returns-then-is_written-clause-read c content is e =
    ap Some (reads_back content c.args.bytes.now (Ok c.in-Ok.content) is e c.in-Ok.ensures)

pub returns-else-is_written-clause-read : goal.returns-else-is_written-clause-read
returns-else-is_written-clause-read c content is e =
    absurd (not_written content c.in-Ok.content c.args.bytes.now
    (reads_back content c.args.bytes.now (Ok c.in-Ok.content) is e c.in-Ok.ensures) e
    (sym c.if-is_written.ensures.test))

pub returns-in_default-clause-read : goal.returns-in_default-clause-read
returns-in_default-clause-read c content is e =
    absurd (c.in_default.not-Memory (reads_back content c.args.bytes.now (Err c.in-Err.refusal) is e c.in-Err.ensures))
