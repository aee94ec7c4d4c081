-- The fields of a stored label follow from its bytes.
use Rattle.std.specs.Prelude.{◌≡◌, length, take}
use Rattle.std.proofs.Common.{sym, arith, length-take}
use Rattle.ps_value.specs.Label.{padded, IsStored}
use Rattle.ps_value.specs.declared.label.Label.TheInside.{Inside}

pub label_restored : (a : Inside) → IsStored a.room a.used →
    let kept = take a.used a.room in record { room = padded kept; used = length kept } ≡ a
label_restored a stored =
    let room_is : padded (take a.used a.room) ≡ a.room = sym stored.zeros in
    let used_is : length (take a.used a.room) ≡ a.used = simp length-take (omega (arith, stored.within)) in
    rw (used_is, room_is)
