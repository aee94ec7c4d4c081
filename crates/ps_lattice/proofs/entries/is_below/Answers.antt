use Rattle.std.proofs.Common.{◌≡◌, Some, sym, subst, refl, ◌∙◌, arith}
use mathlib.Core.Bool.{false≢true}
use Rattle.ps_lattice.specs.Maps.{both_of}
use Rattle.ps_lattice.proofs.Covering.{covered_is_below, below_is_covered}
use Rattle.ps_lattice.proofs.entries.is_below.Goals as goal

-- some entry changes something
pub returns-then-not-covers_at : goal.returns-then-not-covers_at
returns-then-not-covers_at g c = (
  λ e. absurd (false≢true e),
  λ below.
      let e = c.loop-key-item.result in
      let covered =
      below_is_covered g.K.Ord.cmp g.X.Join.joined g.met.K.Ord.total g.met.K.Linear.no_ties c.args.theirs.now
      c.args.mine.now c.requires.theirs c.requires.mine c.loop-key.key-index e
      (omega arith) c.loop-key-item.is below in
      sym c.if-not-covers_at.true
      ∙ c.covers_at.ensures.1 (subst (λ a. both_of g.X.Join.joined a (Some e.1) ≡ a) (sym c.value_at.ensures) covered),
)

-- no entry changes anything
pub returns : goal.returns
returns g c = (
  λ _. covered_is_below g.K.Ord.cmp g.X.Join.joined g.met.K.Ord.total g.met.K.Linear.no_ties c.args.theirs.now
      c.args.mine.now c.requires.theirs c.requires.mine (λ k d low high. c.loop-key.invariant k d low (omega arith)),
  λ _. refl,
)
