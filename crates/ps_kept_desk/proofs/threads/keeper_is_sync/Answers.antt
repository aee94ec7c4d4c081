use denote.Param.{param}
use denote.RattleType.{RattleType}
use denote.Param.Send.{IsSend, IsSync, sendable}
use denote.Param.SendFields.{declared_sync, as_row_sync}
use Rattle.std.proofs.Crossing.{crosses}
use Rattle.std.specs.contracts.sync.Mutex as Mutex
use Rattle.ps_kept_desk.specs.contracts.record.Record as record_row
use Rattle.ps_kept_desk.specs.contracts.keeper.DeskKeeper as keeper
use Rattle.ps_kept_desk.proofs.threads.keeper_is_sync.Goals as goal

lock_sync : (R : RattleType) → IsSend R → IsSync (Mutex.the_row R)
lock_sync R s = search (crosses, sendable, s)

-- what lies under the lock may go to another thread, so threads may share the whole
pub returns : goal.returns
returns g c =
    let L : RattleType = param 0 g.row.L in
    let D : RattleType = param 1 g.row.D in
    let R : RattleType = record_row.the_row L D g.L.DeskName g.L.Named g.L.Ledger g.D.Device in
    let h : IsSend R = record { owned = c.record_is_send.ensures.owned; leaving = λ k x w. tt } in
    declared_sync (keeper.the_type L D g.L.DeskName g.L.Named g.L.Ledger g.D.Device)
    (as_row_sync (Mutex.the_field R) (lock_sync R h), tt)
