use Rattle.std.proofs.Common.{rules}
use Rattle.ps_squash.proofs.whole.squashed.Goals as goal

pub returns-in-Err-TooLong-clause-wide : goal.returns-in-Err-TooLong-clause-wide
returns-in-Err-TooLong-clause-wide g c = λ is.
    let r = c.in-Ok.ensures.together in
    let w = c.in-Err-TooLong.ensures.wide (search (rules, c.in-Err-TooLong.field-0-is)) in
    (r.0, r.1, r.2, record { told = _; state = _; given = r.3; cell = w.0; wide = w.1 })
