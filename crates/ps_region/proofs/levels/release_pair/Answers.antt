use Rattle.ps_region.proofs.ReleaseLemmas.{Released-both}
use Rattle.ps_region.proofs.levels.release_pair.Goals as goal

pub returns-clause-released : goal.returns-clause-released
returns-clause-released g c =
    Released-both (g.A.After.refers c.args.change.now.after.now) c.args.d c.args.k c.args.left.now c.args.level.now
    c.args.order.now.items c.release_sole.new.left c.release_sole.new.level c.release_sole.new.order.items
    c.release_sole-2.new.left c.release_sole-2.new.level c.release_sole-2.new.order.items c.args.pair.0 c.args.pair.1
    c.requires.apart c.release_sole.ensures.released c.release_sole-2.ensures.released
