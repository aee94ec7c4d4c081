use Rattle.ps_page.specs.declared.head.Answer.{Answer}
use Rattle.ps_page.proofs.HeadLemmas.{refused_opens}
use Rattle.ps_page.proofs.head.open_news.Goals as goal

pub returns-in-Err : goal.returns-in-Err
returns-in-Err c = refused_opens Answer.News _ _ (rw c.in-Err.is at c.check_request.ensures)
