use Rattle.std.proofs.Common.{ap, ◌∙◌, ◌∷◌, []}
use Rattle.ps_lattice.specs.Inside.Counts.{counts_in}
use Rattle.ps_lattice.proofs.CountLemmas.{one_is_join}
use Rattle.ps_lattice.proofs.counts.joined_filled.Goals as goal

-- both have small counts of one replica
pub returns-in-Small-Small-clause-ok : goal.returns-in-Small-Small-clause-ok
returns-in-Small-Small-clause-ok c =
    let a = c.in-Small-Small in
    (λ i. (a.replica, record { added = c.max.ensures i; subtracted = c.max-in-Small-Small.ensures i }) ∷ [])
    ∙ one_is_join (counts_in c.args.mine.now) (counts_in c.args.theirs.now)
    (a.replica, record { added = a.added; subtracted = a.subtracted })
    (a.other, record { added = a.their_added; subtracted = a.their_subtracted })
    (ap counts_in a.is-0) (ap counts_in a.is-1) c.if-replica-other.true
