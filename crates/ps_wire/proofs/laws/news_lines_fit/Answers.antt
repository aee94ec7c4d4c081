use Rattle.ps_wire.proofs.NewsLineLemmas.{news_fit}
use Rattle.ps_wire.proofs.laws.news_lines_fit.Goals as goal

pub returns : goal.returns
returns c = news_fit
