use Rattle.std.proofs.Common.{inl}
use Rattle.std.specs.Prelude.{⊤}
use Rattle.std.proofs.lemmas.Result.{err_from_is_err_and}
use Rattle.ps_desk.proofs.SeatChanges.{edited, unedited}
use Rattle.ps_desk.proofs.seat.SeatBoardMeter.apply_edit.Goals as goal

pub returns-in_err-made : goal.returns-in_err-made
returns-in_err-made g c =
    let e = c.in_err-made.ensures in
    let refused = err_from_is_err_and c.from_residual.result c.from_residual.ensures.1 in
    rw (← c.self.view_is, refused.1, refused.2) (record {
      edited = unedited g.L.DeskName.replica g.L.Named.opening c.self.inside.pass c.edit.new.pass e.took c.args.edit
          c.in_err-made.field-0.0 e.uncounted e.refused e.asked;
    })

pub returns : goal.returns
returns g c =
    let e = c.in_ok-made.ensures in
    let all = edited g.L.DeskName.replica g.L.Named.opening c.self.inside.pass c.edit.new.pass e.took (λ n d. ⊤)
    c.args.edit c.in_ok-made.made.number c.in_ok-made.made.enclosed c.in_ok-made.made.fresh e.receipt e.counted in
    rw (← c.self.view_is) (record { edited = (inl (inl all.0), all.1) })
