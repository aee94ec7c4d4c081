use Rattle.ps_delta.proofs.JoiningLemmas.{gathered_more}
use Rattle.ps_delta.proofs.joining.gathered.Goals as goal

pub loop-delta-preserved : goal.loop-delta-preserved
loop-delta-preserved c =
    gathered_more _ _ _ _ _ c.parts.result.now c.loop-delta-test.true c.delta-item.is c.parts.ensures.value
    c.parts.ensures.delta c.parts.ensures.in_grid
    c.in_ok-append.ensures.added c.loop-delta.invariant
