use Rattle.std.specs.FinMap as map
use Rattle.std.specs.List.{list_all}
use Rattle.std.specs.Prelude.{◌||◌}
use Rattle.ps_lattice.specs.Choice.{is_pair, pair_cmp}
use Rattle.ps_lattice.specs.ChoiceLaws.{pairs_total, pairs_apart}
use Rattle.ps_lattice.specs.Inside.Shared.{items_of}
use Rattle.ps_lattice.specs.Inside.News.{newer_mark}
use Rattle.ps_lattice.specs.Inside.NewsLaws.{marks_news}
use Rattle.ps_lattice.proofs.Rising.{and_left}
use Rattle.ps_lattice.proofs.NewsLemmas.{mark_fits, news_in_range, seen_news}
use Rattle.ps_lattice.proofs.choice.Choice.news.Goals as goal

pub invariant_of-result : goal.invariant_of-result
invariant_of-result c =
    news_in_range pair_cmp newer_mark pairs_total is_pair mark_fits (items_of c.self.inside.pairs)
    (items_of c.delta.inside.pairs) (items_of c.in_ok-news.field-0) c.delta.invariant c.in_ok-news.ensures.ok

pub returns-clause-ok : goal.returns-clause-ok
returns-clause-ok c =
    let mine = items_of c.self.inside.pairs in
    let theirs = items_of c.delta.inside.pairs in
    seen_news pair_cmp newer_mark pairs_total ◌||◌ marks_news pairs_apart mine theirs
    (items_of c.in_ok-news.field-0) c.args.self.now c.args.delta.now
    (and_left (map.is_sorted pair_cmp mine) (list_all is_pair mine) c.self.invariant)
    (and_left (map.is_sorted pair_cmp theirs) (list_all is_pair theirs) c.delta.invariant)
    c.in_ok-news.ensures.ok c.self.view_is c.delta.view_is
