use Rattle.std.proofs.Common.{arith, length-append}
use Rattle.ps_server.proofs.Backs.{Back-push}
use Rattle.ps_server.proofs.sessions.end_all.Goals as goal

pub loop-slot-preserved : goal.loop-slot-preserved
loop-slot-preserved g c =
    let e = c.push_reserved.ensures in
    let i = c.loop-slot.invariant in (
      rw e.items (Back-push _ _ _ _ _ _ i.0 c.end.ensures),
      rw e.items (simp length-append (omega (arith, i.1))),
      omega (arith, e.capacity, i.2),
    )
