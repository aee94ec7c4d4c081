-- A delta may move to another thread, if the state of a cell may, and if several threads may read one.

use denote.RattleType.{RattleType}
use denote.Param.Send.{IsSend, IsSync, sendable, view_send}
use denote.Param.SendFields.{declared_send, variants_send, as_row_send}
use denote.Struct.Tuple.{Tuple}
use mathlib.Core.List.{[], ◌∷◌}
use Rattle.std.proofs.Crossing as crossing
use Rattle.std.proofs.Crossing.{crosses}
use Rattle.std.specs.contracts.vec.Vec as Vec
use Rattle.std.specs.contracts.sync.Arc as Arc
use Rattle.std.specs.contracts.alloc.Global as Global
use Rattle.std.specs.contracts.impls.GlobalAllocator.TheImpl.{ghosts}
use Rattle.ps_grid.specs.contracts.cell.Cell as cell
use Rattle.ps_delta.specs.contracts.cell_state.CellState as cell_state
use Rattle.ps_delta.specs.contracts.delta_cells.DeltaCells as delta_cells
use Rattle.ps_delta.specs.contracts.delta.Delta as delta
use Rattle.ps_delta.specs.contracts.delta.Delta.TheInside as inside

abbrev entry : RattleType
entry = Tuple (cell.the_row ∷ cell_state.the_row ∷ [])

abbrev list : RattleType
list = Vec.the_row entry Global.the_row ghosts

cell_send : IsSend cell.the_row
cell_send = search (crosses, sendable) depth 20

cell_sync : IsSync cell.the_row
cell_sync = search (crosses, sendable) depth 20

pair_send : (Q R : RattleType) → IsSend Q → IsSend R → IsSend (Tuple (Q ∷ R ∷ []))
pair_send Q R q r = search sendable depth 20

pair_sync : (Q R : RattleType) → IsSync Q → IsSync R → IsSync (Tuple (Q ∷ R ∷ []))
pair_sync Q R q r = search sendable depth 20

abbrev shared_list : RattleType
shared_list = Arc.the_row list Global.the_row ghosts

shared_send : IsSend list → IsSync list → IsSend shared_list
shared_send d e = search (crosses, sendable, d, e) depth 60 fits 100000

cells_send : IsSend entry → IsSend shared_list → IsSend delta_cells.the_row
cells_send e l = variants_send delta_cells.enum (
  (search (sendable, e) depth 20, tt),
  ((as_row_send (Arc.the_field list Global.the_row ghosts) l, tt), tt),
)

pub delta_send : IsSend cell_state.the_row → IsSync cell_state.the_row → IsSend delta.the_row
delta_send a b =
    let e : IsSend entry = pair_send cell.the_row cell_state.the_row cell_send a in
    let f : IsSync entry = pair_sync cell.the_row cell_state.the_row cell_sync b in
    let l : IsSend shared_list = shared_send (crossing.Vec-send entry e) (crossing.Vec-sync entry f) in
    view_send _ _ _ _ _ (declared_send inside.the_type (cells_send e l, tt))
