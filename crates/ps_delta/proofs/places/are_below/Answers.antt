use Rattle.std.proofs.Common.{◌∙◌, sym, ap, refl, true≢false, arith, length}
use Rattle.ps_delta.proofs.PlaceLemmas.{joined_places-none, length-joined, same-all, same-more, same_at_place}
use Rattle.ps_delta.proofs.places.are_below.Goals as goal

pub returns-then-mine-theirs : goal.returns-then-mine-theirs
returns-then-mine-theirs g c = (
  λ t. cc,
  λ same. absurd (omega (
    arith,
    c.if-mine-theirs.true,
    ap length same,
    length-joined g.X.Join.joined c.args.theirs.now c.args.mine.now,
  )),
)

pub loop-i-init : goal.loop-i-init
loop-i-init g c = joined_places-none g.X.Join.joined

pub returns-then-not-below : goal.returns-then-not-below
returns-then-not-below g c = (
  λ t. cc,
  λ same. absurd (true≢false (sym (c.below.ensures.1
      (same_at_place g.X.Join.joined c.args.mine.now c.args.theirs.now c.loop-i.i _ _ c.loop-i-test.true
      (omega (arith, c.loop-i-test.true, c.if-mine-theirs.false)) c.index-mine-i.is c.index-theirs-i.is same))
      ∙ c.if-not-below.true)),
)

pub loop-i-preserved : goal.loop-i-preserved
loop-i-preserved g c =
    same-more g.X.Join.joined c.args.mine.now c.args.theirs.now c.loop-i.i _ _ c.loop-i-test.true
    (omega (arith, c.loop-i-test.true, c.if-mine-theirs.false)) c.index-mine-i.is c.index-theirs-i.is
    (c.below.ensures.0 c.if-not-below.false) c.loop-i.invariant

pub returns : goal.returns
returns g c = (
  λ t. same-all g.X.Join.joined c.args.mine.now c.args.theirs.now c.loop-i.i (omega (arith, c.loop-i-test.false))
      (omega (arith, c.if-mine-theirs.false)) c.loop-i.invariant,
  λ same. refl,
)
