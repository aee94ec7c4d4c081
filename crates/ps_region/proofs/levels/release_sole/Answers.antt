use Rattle.std.proofs.Common.{◌≡◌, [], true, arith, sym, refl}
use Rattle.ps_region.proofs.ReleaseLemmas.{Released-start, Released-lower}
use Rattle.ps_region.proofs.levels.release_sole.Goals as goal

pub returns-then-still_refers-clause-released : goal.returns-then-still_refers-clause-released
returns-then-still_refers-clause-released g c =
    let refers = g.A.After.refers c.args.change.now.after.now in
    let r : refers c.args.e c.args.d ≡ true = sym c.if-still_refers.ensures in
    let some = c.requires.some r in
    (Released-lower refers c.args.d c.args.k [] c.args.left.now c.args.level.now c.args.order.now.items
    c.args.left.now c.args.level.now c.args.order.now.items c.lower.new.left c.lower.new.level
    c.lower.new.order.items c.args.e
    (Released-start refers c.args.d c.args.k c.args.left.now c.args.level.now c.args.order.now.items c.requires.queued)
    r refl (omega (arith, c.index-place.ensures.index, c.index-place.ensures.in_grid, c.requires.left_length))
    (omega (arith, c.requires.left_length, c.requires.level_length)) some
    c.lower.ensures.left c.lower.ensures.more c.lower.ensures.last)
