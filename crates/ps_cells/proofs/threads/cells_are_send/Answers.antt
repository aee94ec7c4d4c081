use denote.Builtin.{bool}
use denote.Exit.{yes}
use denote.RattleType.{RattleType}
use denote.Hole.{as_row}
use denote.Param.Send.{IsSend, IsSync, arg_send, param_send, sendable, view_send, view_sync}
use denote.Param.SendFields.{declared_send, declared_sync, as_row_send, as_row_sync}
use denote.Struct.Declared as S
use denote.Struct.Tuple.{Tuple}
use mathlib.Core.List.{[], ◌∷◌}
use Rattle.std.proofs.Crossing as crossing
use Rattle.std.proofs.Crossing.{crosses}
use Rattle.std.specs.contracts.vec.Vec as Vec
use Rattle.std.specs.contracts.option.Option as Option
use Rattle.std.specs.contracts.alloc.Global as Global
use Rattle.std.specs.contracts.impls.GlobalAllocator.TheImpl.{ghosts}
use Rattle.ps_delta.specs.contracts.block.Block as block
use Rattle.ps_delta.specs.contracts.grid.Grid as grid
use Rattle.ps_delta.specs.contracts.grid.Grid.TheInside as grid_inside
use Rattle.ps_grid.specs.contracts.cell.Cell as cell
use Rattle.ps_index.specs.contracts.index.Index as index
use Rattle.ps_region.specs.contracts.cell_set.CellSet as cell_set
use Rattle.ps_region.specs.contracts.region.Region as region
use Rattle.ps_cells.specs.contracts.cells.Cells.TheInside as cells_inside
use Rattle.ps_cells.specs.contracts.tables.Tables as tables
use Rattle.ps_cells.specs.contracts.change.Lists as lists
use Rattle.ps_delta.specs.contracts.cell_state.CellState as cell_state
use Rattle.ps_shown.specs.contracts.kept.Kept as kept
use Rattle.ps_cells.specs.contracts.level.Level as level
use Rattle.ps_cells.specs.contracts.screen.Screen as screen
use Rattle.ps_cells.proofs.threads.cells_are_send.Goals as goal

-- from what the bounds say of the parts, one after another, that the whole may go to another thread

list_send : IsSend (Vec.the_row cell.the_row Global.the_row ghosts)
list_send = search (crosses, sendable) depth 20

flags_send : IsSend (Vec.the_row bool Global.the_row ghosts)
flags_send = search (crosses, sendable) depth 20

source_send : IsSend (as_row (Option.the_field cell.the_row))
source_send = search (crosses, sendable) depth 20

tables_send : IsSend grid.the_row → IsSend index.the_row → IsSend screen.the_row → IsSend region.the_row
    → IsSend cell_set.the_row → IsSend level.the_row → IsSend tables.the_row
tables_send g i s r k l = declared_send tables.the_type (
  as_row_send grid.the_field g,
  (
    as_row_send index.the_field i,
    (
      as_row_send screen.the_field s,
      (
        as_row_send region.the_field r,
        (
          source_send,
          (
            as_row_send cell_set.the_field k,
            (as_row_send (Vec.the_field bool Global.the_row ghosts) flags_send, (l, (search sendable, tt))),
          ),
        ),
      ),
    ),
  ),
)

abbrev olds_row : RattleType
olds_row = Vec.the_row (Tuple (cell.the_row ∷ cell_state.the_row ∷ [])) Global.the_row ghosts

pair_send : (Q R : RattleType) → IsSend Q → IsSend R → IsSend (Tuple (Q ∷ R ∷ []))
pair_send Q R q r = search sendable depth 20

cell_send : IsSend cell.the_row
cell_send = search (crosses, sendable) depth 20

olds_send : IsSend cell_state.the_row → IsSend olds_row
olds_send a =
    crossing.Vec-send (Tuple (cell.the_row ∷ cell_state.the_row ∷ []))
    (pair_send cell.the_row cell_state.the_row cell_send a)

kept_send : IsSend kept.the_row
kept_send = search (crosses, sendable) depth 30

first_send : IsSend (Vec.the_row (Tuple (cell.the_row ∷ kept.the_row ∷ [])) Global.the_row ghosts)
first_send =
    crossing.Vec-send (Tuple (cell.the_row ∷ kept.the_row ∷ []))
    (pair_send cell.the_row kept.the_row cell_send kept_send)

lists_send : IsSend cell_state.the_row → IsSend lists.the_row
lists_send a = declared_send lists.the_type (
  as_row_send (Vec.the_field cell.the_row Global.the_row ghosts) list_send,
  (
    as_row_send (Vec.the_field (Tuple (cell.the_row ∷ kept.the_row ∷ [])) Global.the_row ghosts) first_send,
    (
      as_row_send (Vec.the_field (Tuple (cell.the_row ∷ cell_state.the_row ∷ [])) Global.the_row ghosts) (olds_send a),
      tt,
    ),
  ),
)

cells_send : IsSend tables.the_row → IsSend lists.the_row → IsSend (S.row cells_inside.the_type)
cells_send t o = declared_send cells_inside.the_type (t, (o, (search sendable, tt)))

block_send : IsSend cell_state.the_row → IsSend block.the_row
block_send a = search (crosses, sendable) depth 20

block_sync : IsSync cell_state.the_row → IsSync block.the_row
block_sync a = search (crosses, sendable) depth 20

blocks_send : IsSend block.the_row → IsSend (Vec.the_row block.the_row Global.the_row ghosts)
blocks_send b = crossing.Vec-send block.the_row b

blocks_sync : IsSync block.the_row → IsSync (Vec.the_row block.the_row Global.the_row ghosts)
blocks_sync b = crossing.Vec-sync block.the_row b

inside_send : IsSend cell_state.the_row → IsSend block.the_row → IsSend (S.row grid_inside.the_type)
inside_send a b = declared_send grid_inside.the_type (
  as_row_send (Vec.the_field block.the_row Global.the_row ghosts) (blocks_send b),
  (a, tt),
)

inside_sync : IsSync cell_state.the_row → IsSync block.the_row → IsSync (S.row grid_inside.the_type)
inside_sync a b = declared_sync grid_inside.the_type (
  as_row_sync (Vec.the_field block.the_row Global.the_row ghosts) (blocks_sync b),
  (a, tt),
)

grid_send : IsSend cell_state.the_row → IsSend block.the_row → IsSend grid.the_row
grid_send a b = view_send _ _ _ _ _ (inside_send a b)

grid_sync : IsSync cell_state.the_row → IsSync block.the_row → IsSync grid.the_row
grid_sync a b = view_sync _ _ _ _ _ (inside_sync a b)

pub is_send_and_sync-requires-2-send-T : goal.is_send_and_sync-requires-2-send-T
is_send_and_sync-requires-2-send-T c κs =
    let a : IsSend cell_state.the_row =
    record { owned = c.is_send_and_sync.ensures.send.owned; leaving = λ k x w. (tt, (tt, (tt, tt))) } in
    let g : IsSend grid.the_row = grid_send a (block_send a) in
    param_send _ _ (arg_send _ yes _ g)

pub is_send_and_sync-requires-2-sync-T : goal.is_send_and_sync-requires-2-sync-T
is_send_and_sync-requires-2-sync-T c κs =
    let a : IsSync cell_state.the_row = record { shared = c.is_send_and_sync.ensures.sync.shared } in
    let g : IsSync grid.the_row = grid_sync a (block_sync a) in
    record { shared = g.shared }

pub returns : goal.returns
returns c =
    let a : IsSend cell_state.the_row =
    record { owned = c.is_send_and_sync.ensures.send.owned; leaving = λ k x w. (tt, (tt, (tt, tt))) } in
    let g : IsSend grid.the_row = record { owned = c.is_send_and_sync-2.ensures.send.owned; leaving = λ k x w. tt } in
    let i : IsSend index.the_row = record { owned = c.is_send_and_sync-3.ensures.send.owned; leaving = λ k x w. tt } in
    let s : IsSend screen.the_row = record { owned = c.is_send_and_sync-4.ensures.send.owned; leaving = λ k x w. tt } in
    let r : IsSend region.the_row = record { owned = c.is_send_and_sync-5.ensures.send.owned; leaving = λ k x w. tt } in
    let k : IsSend cell_set.the_row =
    record { owned = c.is_send_and_sync-6.ensures.send.owned; leaving = λ k x w. tt } in
    let l : IsSend level.the_row =
    record { owned = c.is_send_and_sync-7.ensures.send.owned; leaving = λ k x w. (tt, (tt, tt)) } in
    view_send _ _ _ _ _ (cells_send (tables_send g i s r k l) (lists_send a))
