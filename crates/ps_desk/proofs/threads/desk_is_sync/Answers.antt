use denote.Param.{param}
use denote.RattleType.{RattleType}
use denote.Param.Send.{IsSend, IsSync, sendable}
use denote.Param.SendFields.{declared_sync, as_row_sync}
use denote.Struct.Declared as S
use Rattle.std.proofs.Crossing.{crosses}
use Rattle.std.specs.contracts.sync.Condvar as Condvar
use Rattle.std.specs.contracts.sync.Mutex as Mutex
use Rattle.ps_desk.specs.contracts.state.DeskState as state
use Rattle.ps_desk.specs.contracts.desk.Desk.TheInside as inside
use Rattle.ps_desk.proofs.threads.desk_is_sync.Goals as goal

lock_sync : (R : RattleType) → IsSend R → IsSync (Mutex.the_row R)
lock_sync R s = search (crosses, sendable, s)

bell_sync : IsSync (Condvar.the_field).row
bell_sync = search (crosses, sendable)

-- threads may share the whole, since they may share each of its parts
pub returns : goal.returns
returns g c =
    let L : RattleType = param 0 g.row.L in
    let W : RattleType = param 1 g.row.W in
    let R : RattleType = state.the_row L W g.L.DeskName g.L.Named g.L.Ledger in
    let h : IsSend R = record { owned = c.state_is_send.ensures.owned; leaving = λ k x w. tt } in
    let whole : IsSync (S.row (inside.the_type L W g.L.DeskName g.L.Named g.L.Ledger)) =
    declared_sync (inside.the_type L W g.L.DeskName g.L.Named g.L.Ledger) (
      as_row_sync (Mutex.the_field R) (lock_sync R h),
      (as_row_sync Condvar.the_field bell_sync, (search sendable, (search sendable, tt))),
    ) in
    record { shared = λ d b o κ x. (whole.shared x.0 b o κ, tt) }
