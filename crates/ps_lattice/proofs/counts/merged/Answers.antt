use Rattle.std.proofs.Common.{◌∙◌}
use Rattle.std.proofs.lemmas.Result.{IfOk-weaker}
use Rattle.ps_lattice.specs.Inside.Counts.{counts_in}
use Rattle.ps_lattice.proofs.CountLemmas.{mine_is_join, theirs_is_join}
use Rattle.ps_lattice.proofs.counts.merged.Goals as goal

-- the second list changes nothing in the first one
pub returns-then-is_below-clause-ok : goal.returns-then-is_below-clause-ok
returns-then-is_below-clause-ok c =
    IfOk-weaker c.share.result _ _ (λ l is. is
    ∙ mine_is_join (counts_in c.args.mine.now) (counts_in c.args.theirs.now) c.requires.mine
    (rw (c.as_slice.ensures, c.as_slice-2.ensures, c.entries-my.ensures, c.entries-their.ensures) at
    (c.is_below.ensures.0 c.if-is_below.true))) c.share.ensures.ok

-- nor the first one in the second one
pub returns-then-is_below-2-clause-ok : goal.returns-then-is_below-2-clause-ok
returns-then-is_below-2-clause-ok c =
    IfOk-weaker c.share-then-is_below-2.result _ _ (λ l is. is
    ∙ theirs_is_join (counts_in c.args.mine.now) (counts_in c.args.theirs.now) c.requires.theirs
    (rw (c.as_slice-3.ensures, c.as_slice-4.ensures, c.entries-my.ensures, c.entries-their.ensures) at
    (c.is_below-2.ensures.0 c.if-is_below-2.true))) c.share-then-is_below-2.ensures.ok
