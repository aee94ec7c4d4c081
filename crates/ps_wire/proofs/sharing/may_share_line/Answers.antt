use Rattle.std.proofs.Common.{◌+◌, ◌-◌, ◌≤◌, arith, length, subst, take}
use Rattle.std.proofs.lemmas.List.{length-take-le, take-take}
use Rattle.std.specs.List.{All}
use Rattle.ps_wire.specs.Inside.{AreListed, Overspends}
use Rattle.ps_wire.specs.Length.{HasNoLine}
use Rattle.ps_wire.specs.declared.TheConstants.{DELTA_LINE_LIMIT}
use Rattle.ps_wire.proofs.SharingLemmas.{no_line}
use Rattle.ps_wire.proofs.sharing.may_share_line.Goals as goal

pub returns-clause-more : goal.returns-clause-more
returns-clause-more c = λ k above within inside.
    let deltas = c.args.deltas.now in
    let group = take c.min-count.result deltas in
    let n = c.room_for.result in
    let count : k ≤ c.min-count.result = omega (arith, c.min-count.ensures, within, inside) in
    let few : c.min-count.result ≤ length deltas = omega (arith, c.min-count.ensures) in
    let group_long = length-take-le c.min-count.result deltas few in
    let over = subst
    (λ fs. Overspends (λ listed. All (AreListed listed) (take (n + 1) group)) fs (DELTA_LINE_LIMIT - 1))
    c.deref_mut.ensures.value (c.room_for.ensures.more (omega (arith, above, count, group_long))) in
    subst HasNoLine (take-take k c.min-count.result deltas count)
    (no_line c.in_ok-floors.floors.items group n k c.in_ok-floors.ensures.floors above over)
