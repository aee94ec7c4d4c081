use denote.Builtin.{u64}
use denote.Exit.{yes}
use denote.Hole.{as_row}
use denote.Param.Send.{IsSend, sendable}
use denote.Param.SendFields.{declared_send, as_row_send}
use denote.Struct.Declared as S
use Rattle.std.specs.contracts.option.Option as Option
use Rattle.std.specs.contracts.sync.ledger.Book as book
use Rattle.ps_sheet.specs.contracts.staging.Staging as staging
use Rattle.ps_face.specs.contracts.writer.FaceWriter as writer
use Rattle.ps_desk.specs.contracts.state.DeskState.TheInside as inside
use Rattle.ps_desk.proofs.threads.state_is_send.Goals as goal

waiting_send : IsSend (as_row (Option.the_field u64))
waiting_send = search sendable depth 20

-- the whole may go to another thread, since each of its parts may
pub returns : goal.returns
returns g c =
    let w : IsSend (writer.the_row g.row.L g.row.W g.L.Named g.L.Ledger) =
    record { owned = c.writer_is_send.ensures.owned; leaving = λ k x w. tt } in
    let whole : IsSend (S.row (inside.the_type g.row.L g.row.W g.L.DeskName g.L.Named g.L.Ledger)) =
    declared_send (inside.the_type g.row.L g.row.W g.L.DeskName g.L.Named g.L.Ledger) (
      as_row_send staging.the_field c.staging_is_send.ensures,
      (
        as_row_send (writer.the_field g.row.L g.row.W g.L.Named g.L.Ledger) w,
        (
          as_row_send (book.the_field g.row.L g.L.Ledger)
              (record { owned = c.is_send.ensures.owned; leaving = λ k. c.is_send.ensures.leaving yes }),
          (waiting_send, tt),
        ),
      ),
    ) in
    record { owned = λ d vs x. (whole.owned x.0 vs, tt); leaving = λ k d w. tt }
