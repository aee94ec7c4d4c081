use Rattle.std.proofs.Common.{inl}
use Rattle.std.specs.Prelude.{⊤}
use Rattle.ps_desk.proofs.SeatChanges.{taken_in}
use Rattle.ps_desk.proofs.seat.SeatBoardMeter.apply_delta.Goals as goal

pub returns : goal.returns
returns g c =
    let e = c.in_ok-taken.ensures in
    let all = taken_in g.L.DeskName.replica g.L.Named.opening c.self.inside.pass c.receive.new.pass e.took (λ n d. ⊤)
    c.args.delta c.in_ok-taken.taken.number c.in_ok-taken.taken.enclosed c.in_ok-taken.taken.fresh e.receipt
    e.counted in
    rw (← c.self.view_is) (record { received = (inl all.0, all.1) })
