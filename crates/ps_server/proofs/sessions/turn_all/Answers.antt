use Rattle.std.proofs.Common.{◌∙◌}
use Rattle.std.proofs.Math.Seq.{map-set_same}
use Rattle.ps_server.specs.Sessions.{Turns}
use Rattle.ps_server.proofs.sessions.turn_all.Goals as goal

pub loop-slot-preserved : goal.loop-slot-preserved
loop-slot-preserved g c =
    map-set_same (λ (t : Turns). t.first) c.loop-slot.slot-items c.loop-slot.slot-index c.turn.new.self
    c.slot-item.result c.turn.ensures
    ∙ c.loop-slot.invariant
