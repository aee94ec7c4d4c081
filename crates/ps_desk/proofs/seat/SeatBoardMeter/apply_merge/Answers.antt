use Rattle.std.proofs.Common.{inl}
use Rattle.std.specs.Prelude.{⊤}
use Rattle.ps_desk.proofs.SeatChanges.{merged_in}
use Rattle.ps_desk.proofs.seat.SeatBoardMeter.apply_merge.Goals as goal

pub returns : goal.returns
returns g c =
    let e = c.in_ok-made.ensures in
    let all = merged_in g.L.DeskName.replica g.L.Named.opening c.self.inside.pass c.merge.new.pass e.took (λ n d. ⊤)
    c.args.delta c.in_ok-made.made.number c.in_ok-made.made.enclosed c.in_ok-made.made.fresh c.merged.result
    c.merged.ensures e.receipt e.counted in
    rw (← c.self.view_is) (record { merged = (inl all.0, all.1) })
