use Rattle.ps_delta.proofs.NewsLemmas.{least_news}
use Rattle.ps_delta.proofs.laws.news_is_least.Goals as goal

pub returns : goal.returns
returns c = least_news
