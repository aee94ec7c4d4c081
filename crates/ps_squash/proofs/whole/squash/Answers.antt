use Rattle.std.proofs.Common.{rules}
use Rattle.ps_squash.proofs.WholeLemmas.{all_squashed, all_wide}
use Rattle.ps_squash.proofs.whole.squash.Goals as goal

pub returns-in-Ok-clause-squashed : goal.returns-in-Ok-clause-squashed
returns-in-Ok-clause-squashed g c =
    let s = c.in-Ok.ensures.squashed in
    (s.0, s.1, s.2, s.3, all_squashed _ _ _ c.all.ensures.until c.all.ensures.without s.4, s.5)

pub returns-in-Err-clause-wide : goal.returns-in-Err-clause-wide
returns-in-Err-clause-wide g c = λ is.
    let w = c.in-Err.ensures.wide (search (rules, is)) in
    (w.0, w.1, w.2, all_wide _ _ c.all.ensures.until c.all.ensures.without w.3)

pub returns-in-Err-clause-sink : goal.returns-in-Err-clause-sink
returns-in-Err-clause-sink g c = λ is.
    let w = c.in-Err.ensures.sink (search (rules, is)) in
    (w.0, w.1, w.2, w.3, w.4, w.5, all_squashed _ _ _ c.all.ensures.until c.all.ensures.without w.6, w.7)
