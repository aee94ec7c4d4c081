use Rattle.std.proofs.Common.{◌≡◌, ◌++◌, drop}
use Rattle.ps_lattice.specs.Inside.News.{news_entries}
use Rattle.ps_lattice.proofs.entries.news_entries.Given as goal

-- what is new so far, and what is new of the rest, are what is new
abbrev pub invariant-loop-key : goal.invariant-loop-key
invariant-loop-key g l =
    l.news.items ++ news_entries g.K.Ord.cmp g.X.Newer.newer l.mine (drop l.key-index l.theirs)
    ≡ news_entries g.K.Ord.cmp g.X.Newer.newer l.mine l.theirs
