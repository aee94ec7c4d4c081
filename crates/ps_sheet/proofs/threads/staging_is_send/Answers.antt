use denote.RattleType.{RattleType}
use denote.Param.Send.{IsSend, IsSync, sendable, view_send}
use denote.Param.SendFields.{declared_send, as_row_send}
use denote.Struct.Declared as S
use Rattle.std.proofs.Crossing.{crosses}
use Rattle.std.specs.contracts.vec.Vec as Vec
use Rattle.std.specs.contracts.option.Option as Option
use Rattle.std.specs.contracts.alloc.Global as Global
use Rattle.std.specs.contracts.impls.GlobalAllocator.TheImpl.{ghosts}
use Rattle.ps_delta.specs.contracts.cell_state.CellState as cell_state
use Rattle.ps_delta.specs.contracts.delta.Delta as delta
use Rattle.ps_cells.specs.contracts.cells.Cells as cells
use Rattle.ps_sheet.specs.contracts.sheet.Report as report
use Rattle.ps_sheet.specs.contracts.staging.Staged as staged
use Rattle.ps_sheet.specs.contracts.staging.Staging.TheInside as inside
use Rattle.ps_sheet.proofs.CrossingDeltas.{delta_send}
use Rattle.ps_sheet.proofs.threads.staging_is_send.Goals as goal

-- from what the bounds say of the parts, one after another, that the whole may go to another thread

history_send : IsSend delta.the_row → IsSend (Vec.the_row delta.the_row Global.the_row ghosts)
history_send a = search (crosses, sendable, a) depth 60 fits 100000

report_send : IsSend report.the_row
report_send = declared_send report.the_type (
  search sendable,
  (search sendable, (search sendable, (search sendable, tt))),
)

staged_send : IsSend delta.the_row → IsSend staged.the_row
staged_send a = declared_send staged.the_type (a, (report_send, tt))

option_send : (R : RattleType) → IsSend R → IsSend (Option.the_row R)
option_send R r = search sendable depth 12

staging_send : IsSend delta.the_row → IsSend cells.the_row → IsSend (S.row inside.the_type)
staging_send a c = declared_send inside.the_type (
  search sendable,
  (
    as_row_send (Vec.the_field delta.the_row Global.the_row ghosts) (history_send a),
    (c, (option_send staged.the_row (staged_send a), tt)),
  ),
)

pub returns : goal.returns
returns c =
    let a = c.is_send_and_sync.ensures in
    let d : IsSend cell_state.the_row = record { owned = a.send.owned; leaving = λ k x w. (tt, (tt, (tt, tt))) } in
    let e : IsSync cell_state.the_row = record { shared = a.sync.shared } in
    view_send _ _ _ _ _ (staging_send (delta_send d e) c.cells_are_send.ensures)
