use Rattle.ps_page.proofs.greeting.answer_request.Goals as goal

pub returns-then-is_opened-clause-greets : goal.returns-then-is_opened-clause-greets
returns-then-is_opened-clause-greets g c = (_, rw c.in-Some-Live.field-0-is at c.in-Some-Live.ensures)

pub returns-then-is_opened-2-clause-greets : goal.returns-then-is_opened-2-clause-greets
returns-then-is_opened-2-clause-greets g c = (_, rw c.in-Some-News.field-0-is at c.in-Some-News.ensures)
