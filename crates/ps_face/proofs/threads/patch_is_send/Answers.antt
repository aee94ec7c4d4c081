use denote.Param.Send.{IsSend, IsSync, sendable, view_send}
use denote.Param.SendFields.{declared_send}
use denote.Struct.Declared as S
use Rattle.std.proofs.Crossing.{crosses}
use Rattle.ps_delta.specs.contracts.cell_state.CellState as cell_state
use Rattle.ps_delta.specs.contracts.delta.Delta as delta
use Rattle.ps_face.specs.contracts.patch.KeptPatch.TheInside as patch_inside
use Rattle.ps_sheet.proofs.CrossingDeltas.{delta_send}
use Rattle.ps_face.proofs.threads.patch_is_send.Goals as goal

-- from what the bounds say of the delta that the whole may go to another thread

patch_send : IsSend delta.the_row → IsSend (S.row patch_inside.the_type)
patch_send d = declared_send patch_inside.the_type (
  search sendable,
  (
    d,
    (search (crosses, sendable) depth 60 fits 100000, (search sendable, tt)),
  ),
)

pub returns : goal.returns
returns c =
    let a = c.is_send_and_sync.ensures in
    let d : IsSend cell_state.the_row = record { owned = a.send.owned; leaving = λ k x w. (tt, (tt, (tt, tt))) } in
    let e : IsSync cell_state.the_row = record { shared = a.sync.shared } in
    view_send _ _ _ _ _ (patch_send (delta_send d e))
