use Rattle.std.proofs.Common.{◌∙◌, sym, arith}
use Rattle.ps_delta.proofs.PlaceLemmas.{both-more, first-more, joined_places-none, second-more}
use Rattle.ps_delta.proofs.places.joined.Goals.{then-i-theirs+in_ok-both, else-i-theirs+in_ok-both-2}
use Rattle.ps_delta.proofs.places.joined.Goals as goal

pub loop-i-init : goal.loop-i-init
loop-i-init g c = c.in_ok-all.ensures.items ∙ sym (joined_places-none g.X.Join.joined)

pub loop-i-preserved : goal.loop-i-preserved
loop-i-preserved g c =
    elim c.if-i-theirs.branch [
      | then-i-theirs+in_ok-both w ↦
          rw (c.in_ok-push.ensures.items, c.loop-i.invariant, w.both-is, w.in_ok-both.ensures.ok)
          (sym (both-more g.X.Join.joined c.args.mine.now c.args.theirs.now c.loop-i.i _ _ c.loop-i-test.true
          w.if-i-theirs.true c.index-mine-i.is w.index-theirs-i.is))
      | else-i-theirs+in_ok-both-2 w ↦
          rw (c.in_ok-push.ensures.items, c.loop-i.invariant, w.both-is, w.in_ok-both-2.ensures.equal)
          (sym (first-more g.X.Join.joined c.args.mine.now c.args.theirs.now c.loop-i.i _ c.loop-i-test.true
          (omega (arith, w.if-i-theirs.false)) c.index-mine-i.is))
    ]

pub loop-k-preserved : goal.loop-k-preserved
loop-k-preserved g c = (
  omega (arith, c.loop-k.invariant.0),
  rw (c.in_ok-push-2.ensures.items, c.loop-k.invariant.1, c.in_ok-twin.ensures.equal)
      (sym (second-more g.X.Join.joined c.args.mine.now c.args.theirs.now c.loop-k.k _ c.loop-k.invariant.0
      c.loop-k-test.true c.index-theirs-k.is)),
)
