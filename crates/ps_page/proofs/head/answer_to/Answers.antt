use Rattle.httparse.specs.Spans.{IsRequestOf}
use Rattle.ps_page.proofs.HeadLemmas.{whole_answered}
use Rattle.ps_page.proofs.head.answer_to.Goals as goal

pub returns-in-Ok-Complete : goal.returns-in-Ok-Complete
returns-in-Ok-Complete c =
    let is : IsRequestOf c.args.buf.now c.parse_request.new.headers c.in-Ok-Complete.request
    = rw (c.in-Ok-Complete.is, c.in-Ok-Complete.field-0-is) at c.parse_request.ensures.complete in
    whole_answered c.args.buf.now c.parse_request.new.headers c.in-Ok-Complete.request _ is
    c.if-request-buf.true c.answer_head.ensures
