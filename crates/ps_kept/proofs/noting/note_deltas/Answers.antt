use Rattle.std.proofs.Common.{arith}
use Rattle.ps_kept.proofs.NoteLemmas.{next_noted}
use Rattle.ps_kept.proofs.noting.note_deltas.Goals as goal

pub deltas-preserved : goal.deltas-preserved
deltas-preserved g c = record {
  counted = omega (arith, c.deltas.invariant.counted);
  noted = next_noted _ _ _ c.args.deltas.now c.deltas.delta-index c.delta-item.result c.deltas-test.true
      c.delta-item.is c.deltas.invariant.noted c.in-Ok.ensures.noted;
}
