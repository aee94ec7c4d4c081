use denote.Exit.{yes}
use denote.Param.{param}
use denote.RattleType.{RattleType}
use denote.Param.Send.{IsSend, sendable}
use denote.Param.SendFields.{declared_send, as_row_send}
use denote.Struct.Declared as S
use Rattle.ps_keep.specs.contracts.journal.Journal as journal
use Rattle.ps_desk.specs.contracts.shown_position.ShownPosition as position
use Rattle.ps_kept_desk.specs.contracts.record.DurablePosition as kept
use Rattle.ps_kept_desk.specs.contracts.record.Record.TheInside as inside
use Rattle.ps_kept_desk.proofs.threads.record_is_send.Goals as goal

-- the parts may go to another thread, so the whole may
pub returns : goal.returns
returns g c =
    let L : RattleType = param 0 g.row.L in
    let D : RattleType = param 1 g.row.D in
    let j : IsSend (journal.the_row D g.D.Device) =
    record { owned = c.is_send.ensures.owned; leaving = λ k. c.is_send.ensures.leaving yes } in
    let k : IsSend (kept.the_row L g.L.DeskName g.L.Named g.L.Ledger) =
    record { owned = c.is_send-2.ensures.owned; leaving = λ k. c.is_send-2.ensures.leaving yes } in
    let p : IsSend (position.the_row L g.L.DeskName g.L.Named g.L.Ledger) =
    record { owned = c.is_send-3.ensures.owned; leaving = λ k. c.is_send-3.ensures.leaving yes } in
    let whole : IsSend (S.row (inside.the_type L D g.L.DeskName g.L.Named g.L.Ledger g.D.Device)) =
    declared_send (inside.the_type L D g.L.DeskName g.L.Named g.L.Ledger g.D.Device) (
      as_row_send (journal.the_field D g.D.Device) j,
      (
        as_row_send (kept.the_field L g.L.DeskName g.L.Named g.L.Ledger) k,
        (
          as_row_send (position.the_field L g.L.DeskName g.L.Named g.L.Ledger) p,
          (search sendable, (search sendable, tt)),
        ),
      ),
    ) in
    record { owned = λ d vs x. (whole.owned x.0 vs, tt); leaving = λ k d w. tt }
