use Rattle.ps_kept.proofs.PushLemmas.{one_read}
use Rattle.ps_kept.proofs.reading.read_pushes.Goals as goal

pub lines-preserved : goal.lines-preserved
lines-preserved c =
    let taken = c.in-Ok-true.ensures.taken c.in-Ok-true.field-0-test in
    let before = c.lines.invariant in
    record {
      read = one_read _ _ _ _ _ _ _ taken.0 before.read c.in-Some.ensures.line c.in-Some.ensures.shorter taken.1.0
          taken.2;
      follow = c.take_in.ensures.follow;
    }
