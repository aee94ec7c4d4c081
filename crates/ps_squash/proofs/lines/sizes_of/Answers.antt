use Rattle.std.proofs.Common.{sym}
use Rattle.ps_squash.proofs.lines.sizes_of.Goals as goal

pub returns-in-Err-clause-wide : goal.returns-in-Err-clause-wide
returns-in-Err-clause-wide c = λ is. (
  c.entry-item.result,
  (c.loop-entry.entry-index, c.loop-entry-test.true, sym c.entry-item.is),
  c.in-Err.ensures.wide is,
)
