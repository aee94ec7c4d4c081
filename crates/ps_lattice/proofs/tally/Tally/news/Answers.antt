use Rattle.std.specs.FinMap as map
use Rattle.std.specs.FinMap.{nat_cmp-IsAntisymmetric}
use Rattle.std.specs.List.{list_all}
use Rattle.std.specs.Ordering.{nat_cmp}
use Rattle.std.specs.Cmp.{nat_cmp_total}
use Rattle.ps_lattice.specs.Tally.{greater_counts, is_count}
use Rattle.ps_lattice.specs.Inside.Counts.{counts_in}
use Rattle.ps_lattice.specs.Inside.News.{newer_count}
use Rattle.ps_lattice.specs.Inside.NewsLaws.{counts_news}
use Rattle.ps_lattice.proofs.Rising.{and_left}
use Rattle.ps_lattice.proofs.NewsLemmas.{count_fits, news_in_range, seen_news}
use Rattle.ps_lattice.proofs.tally.Tally.news.Goals as goal

pub invariant_of-result : goal.invariant_of-result
invariant_of-result c =
    news_in_range nat_cmp newer_count nat_cmp_total is_count count_fits (counts_in c.self.inside.counts)
    (counts_in c.delta.inside.counts) (counts_in c.in_ok-news.field-0) c.delta.invariant c.in_ok-news.ensures.ok

pub returns-clause-ok : goal.returns-clause-ok
returns-clause-ok c =
    let mine = counts_in c.self.inside.counts in
    let theirs = counts_in c.delta.inside.counts in
    seen_news nat_cmp newer_count nat_cmp_total greater_counts counts_news nat_cmp-IsAntisymmetric mine theirs
    (counts_in c.in_ok-news.field-0) c.args.self.now c.args.delta.now
    (and_left (map.is_sorted nat_cmp mine) (list_all is_count mine) c.self.invariant)
    (and_left (map.is_sorted nat_cmp theirs) (list_all is_count theirs) c.delta.invariant)
    c.in_ok-news.ensures.ok c.self.view_is c.delta.view_is
