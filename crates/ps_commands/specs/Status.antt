-- How the program ends before its work is done.
use Rattle.std.specs.Prelude.{◌≡◌, ◌⊎◌, ℕ, Option, Some, None}
use Rattle.csv.specs.declared.error.Error.{Error}
use Rattle.ps_grid.specs.declared.refusal.Refusal.{Refusal}
use Rattle.ps_grid.specs.declared.refusal.Refusal.TheVariants.{Device, Line, Memory, Seat}
use Rattle.ps_peers.specs.declared.peer_pull.SyncFault.{SyncFault}
use Rattle.ps_peers.specs.declared.peer_pull.SyncFault.TheVariants as syncs
use Rattle.ps_session.specs.declared.transcript.RunFault.{RunFault}
use Rattle.ps_session.specs.declared.transcript.RunFault.TheVariants as sessions
use Rattle.ps_commands.specs.declared.fault.ProgramFault.{ProgramFault}
use Rattle.ps_commands.specs.declared.fault.ProgramFault.TheVariants.{KeptFailed, PeerRefused}
use Rattle.ps_commands.specs.declared.fault.ProgramFault.TheVariants.{PortFailed, ReaderFailed, Refused}
use Rattle.ps_commands.specs.declared.kept.KeptTrouble.{KeptTrouble}
use Rattle.ps_commands.specs.declared.kept.KeptTrouble.TheVariants as troubles
use Rattle.ps_commands.specs.declared.port.PortFault.{PortFault}

-- 1 if another program has the file, if it can't be used, or if it keeps the sheet no longer; 3 if it doesn't have
-- lines of the replica's sheet
abbrev pub kept_status : KeptTrouble → ℕ
kept_status troubles.Busy = 1
kept_status (troubles.Unusable cause) = 1
kept_status (troubles.Lost cause) = 1
kept_status _ = 3

-- 1 where a device failed, 3 at any other refusal
abbrev pub exit_status : ProgramFault → ℕ
exit_status (Refused Device) = 1
exit_status (PortFailed port) = 1
exit_status (KeptFailed fault) = kept_status fault.trouble
exit_status _ = 3

-- the fault of an import: the error of `csv`'s own reader, or else its refusal
abbrev pub program_fault : Option Error → Refusal → ProgramFault
program_fault None refusal = Refused refusal
program_fault (Some error) refusal = ReaderFailed error

-- the fault of a session that ended before its input: memory, or else that a device failed
abbrev pub session_fault : RunFault → ProgramFault
session_fault sessions.Memory = Refused Memory
session_fault _ = Refused Device

-- the fault of an exchange between replicas: a peer that closes gives no reply that is due
abbrev pub sync_fault : SyncFault → ProgramFault
sync_fault (syncs.Refused refusal) = Refused refusal
sync_fault (syncs.PeerRefused reply) = PeerRefused reply
sync_fault syncs.Closed = Refused Line

-- what ends a server early: no memory, no seat, or a device that failed
abbrev pub IsServerFault : ProgramFault → Type 0
IsServerFault f = (f ≡ Refused Memory) ⊎ (f ≡ Refused Seat) ⊎ (f ≡ Refused Device)

-- the port that a fault is about
abbrev pub port_fault_of : ProgramFault → Option PortFault
port_fault_of (PortFailed p) = Some p
port_fault_of _ = None

-- the fault is that this port can't be used
abbrev pub HasNoPort : ℕ → ProgramFault → Type 0
HasNoPort port f = (p : PortFault) × (p.port ≡ port) × (f ≡ PortFailed p)
