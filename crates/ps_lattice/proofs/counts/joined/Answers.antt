use Rattle.std.proofs.Common.{ap, ◌∙◌}
use Rattle.std.proofs.lemmas.Result.{IfOk-weaker}
use Rattle.ps_lattice.specs.Inside.Counts.{counts_in}
use Rattle.ps_lattice.proofs.CountLemmas.{none_below, mine_is_join, theirs_is_join}
use Rattle.ps_lattice.proofs.counts.joined.Goals as goal

-- the second list is empty
pub returns-in_default-Empty-clause-ok : goal.returns-in_default-Empty-clause-ok
returns-in_default-Empty-clause-ok c =
    let mine = counts_in c.args.mine.now in
    let theirs = counts_in c.args.theirs.now in
    IfOk-weaker c.share.result _ _ (λ l is. is ∙ mine_is_join mine theirs c.requires.mine
    (none_below theirs mine c.requires.mine (ap counts_in c.in_default-Empty.is-1))) c.share.ensures.ok

-- the first one is
pub returns-in-Empty-default-clause-ok : goal.returns-in-Empty-default-clause-ok
returns-in-Empty-default-clause-ok c =
    let mine = counts_in c.args.mine.now in
    let theirs = counts_in c.args.theirs.now in
    IfOk-weaker c.share-in-Empty-default.result _ _ (λ l is. is ∙ theirs_is_join mine theirs c.requires.theirs
    (none_below mine theirs c.requires.theirs (ap counts_in c.in-Empty-default.is-0)))
    c.share-in-Empty-default.ensures.ok
