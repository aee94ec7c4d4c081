use Rattle.std.proofs.Common.{◌≡◌, ◌+◌, vec_len, All}
use Rattle.ps_face.specs.Rules.{newcomer}
use Rattle.ps_desk.specs.Opening.{new_passes}
use Rattle.ps_desk.proofs.open.make_passes.Given as goal

abbrev pub invariant-loop-seat : goal.invariant-loop-seat
invariant-loop-seat g l =
    (vec_len l.readers + l.seat ≡ l.seats) × All (λ v. v ≡ newcomer) l.readers.items × (l.all.parts + l.seat ≡ l.seats)
    × (l.all.amount ≡ 0) × (l.passes.items ≡ new_passes l.seat)
