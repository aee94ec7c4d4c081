use Rattle.std.proofs.Common.{◌≡◌, arith, false, length, eqb, ⊎_elim}
use Rattle.std.specs.List.{list_any}
use Rattle.ps_region.proofs.CellListLemmas.{room_for, bool_cases}
use Rattle.ps_region.proofs.levels.lower.Goals as goal

pub push_reserved-requires : goal.push_reserved-requires
push_reserved-requires c =
    let order = c.args.order.now.items in
    let absent : list_any (eqb c.args.e) order ≡ false =
    ⊎_elim
    (λ i. absurd (let z = c.requires.queued.none_left c.args.e i in omega (arith, z, c.requires.some)))
    (λ f. f)
    (bool_cases (list_any (eqb c.args.e) order)) in
    let room = room_for order (length c.args.left.now) c.args.e c.requires.queued.once c.requires.queued.below
    (omega (arith, c.index-place.ensures.index, c.index-place.ensures.in_grid, c.requires.left_length)) absent in
    omega (arith, room, c.requires.left_length, c.requires.room)
