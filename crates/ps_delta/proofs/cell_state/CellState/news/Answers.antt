use Rattle.ps_delta.specs.CellNews.{news_from_parts}
use Rattle.ps_delta.proofs.cell_state.CellState.news.Goals as goal

pub returns-clause-ok : goal.returns-clause-ok
returns-clause-ok c =
    news_from_parts c.args.self.now c.args.delta.now _ c.in_ok-news.ensures.ok c.in_ok-news-2.ensures.ok
    c.in_ok-news-3.ensures.ok
