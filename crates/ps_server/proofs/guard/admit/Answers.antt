use Rattle.std.proofs.Common.{◌∙◌, Some, ap}
use Rattle.ps_server.proofs.GuardLemmas.{no_request}
use Rattle.ps_server.proofs.guard.admit.Goals as goal

pub returns-in-Some-false-clause-request : goal.returns-in-Some-false-clause-request
returns-in-Some-false-clause-request g c =
    no_request (g.R.Read.remaining c.args.reader.now) _ c.reads.front.items c.reads.invariant
    (λ rest request. c.judge.ensures.request rest (rw c.deref.ensures.value request)
    (c.in-Some-false.is ∙ ap Some c.in-Some-false.field-0-test))

pub returns-in-Some-true-clause-cause : goal.returns-in-Some-true-clause-cause
returns-in-Some-true-clause-cause g c = λ e.
    rw c.deref.ensures.value at (c.judge.ensures.cause
    (c.in-Some-true.is ∙ ap Some c.in-Some-true.field-0-test))
