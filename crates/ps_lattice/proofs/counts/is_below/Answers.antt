use Rattle.std.proofs.Common.{refl, ap, arith, ℕ}
use Rattle.std.proofs.lemmas.Bool.{le-leb, leb-true}
use Rattle.ps_lattice.specs.declared.tally.Count.{Count}
use Rattle.ps_lattice.specs.Inside.Counts.{counts_in}
use Rattle.ps_lattice.proofs.CountLemmas.{below_one, none_below, one_below}
use Rattle.ps_lattice.proofs.counts.is_below.Goals as goal

-- an empty list changes nothing
pub returns-in-Empty-default : goal.returns-in-Empty-default
returns-in-Empty-default c = (
  λ _. none_below (counts_in c.args.mine.now) (counts_in c.args.theirs.now) c.requires.theirs
      (ap counts_in c.in-Empty-default.is-0),
  λ _. refl,
)

-- both have small counts of one replica
pub returns-then-added-their_added : goal.returns-then-added-their_added
returns-then-added-their_added c =
    let a = c.in-Small-Small in
    let x : ℕ × Count = (a.replica, record { added = a.added; subtracted = a.subtracted }) in
    let y : ℕ × Count = (a.other, record { added = a.their_added; subtracted = a.their_subtracted }) in
    let mine = counts_in c.args.mine.now in
    let theirs = counts_in c.args.theirs.now in (
      λ less. one_below mine theirs x y (ap counts_in a.is-0) (ap counts_in a.is-1) c.if-replica-other.true
          c.requires.theirs (omega (arith, c.if-added-their_added.true), leb-true a.subtracted a.their_subtracted less),
      λ below.
          let both = below_one mine theirs x y (ap counts_in a.is-0) (ap counts_in a.is-1) c.if-replica-other.true
          c.requires.theirs below in
          le-leb a.subtracted a.their_subtracted both.1,
    )

pub returns-else-added-their_added : goal.returns-else-added-their_added
returns-else-added-their_added c =
    let a = c.in-Small-Small in
    let x : ℕ × Count = (a.replica, record { added = a.added; subtracted = a.subtracted }) in
    let y : ℕ × Count = (a.other, record { added = a.their_added; subtracted = a.their_subtracted }) in
    let mine = counts_in c.args.mine.now in
    let theirs = counts_in c.args.theirs.now in (
      λ more. absurd (omega (arith, leb-true a.added a.their_added more, c.if-added-their_added.false)),
      λ below.
          let both = below_one mine theirs x y (ap counts_in a.is-0) (ap counts_in a.is-1) c.if-replica-other.true
          c.requires.theirs below in
          le-leb a.added a.their_added both.0,
    )
