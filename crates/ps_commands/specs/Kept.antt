-- A sheet that is stored in a file, and why a file is refused.
use Rattle.std.specs.Prelude.{◌≡◌, ◌⊎◌, ℕ, List, Option, ⊤}
use Rattle.ps_grid.specs.declared.refusal.Refusal.TheVariants.{Device, Memory}
use Rattle.ps_sheet.specs.Sheet.{IsSheet, SheetView}
use Rattle.ps_delta.specs.Deltas.{Entries}
use Rattle.ps_keep.specs.Digests.{IsClean}
use Rattle.ps_keep.specs.Digested.{IsDamage}
use Rattle.ps_keep.specs.declared.digested.Damage.{Damage}
use Rattle.ps_keep.specs.Journals.{JournalView}
use Rattle.ps_keep.specs.Lines.{whole_lines}
use Rattle.ps_keep.specs.declared.file.FileCause.{FileCause}
use Rattle.ps_kept.specs.Kept.{IsKept, IsNoted}
use Rattle.ps_kept.specs.Starts.{IsFaultOf, Reads}
use Rattle.ps_kept.specs.declared.fault.KeepFault.TheVariants as keeps
use Rattle.ps_server.specs.Kept.{KeepsHistory}
use Rattle.ps_commands.specs.declared.fault.ProgramFault.{ProgramFault}
use Rattle.ps_commands.specs.declared.fault.ProgramFault.TheVariants.{KeptFailed, Refused}
use Rattle.ps_commands.specs.declared.kept.FileNotTaken.{FileNotTaken}
use Rattle.ps_commands.specs.declared.kept.KeptTrouble.{KeptTrouble}
use Rattle.ps_commands.specs.declared.kept.KeptTrouble.TheVariants as troubles

-- a sheet of this replica with so many workers, and its journal
pub record IsKeptSheet (replica workers : ℕ) (sheet : SheetView) (journal : JournalView) : Type 0 where
  pub is_sheet : IsSheet sheet
  pub replica_asked : sheet.replica ≡ replica
  pub workers_asked : sheet.workers ≡ workers
  pub holds : KeepsHistory replica sheet.history journal
  pub noted : IsNoted replica sheet.history journal
  pub kept : IsKept replica sheet.history journal

-- a start of this replica finds the digest lines of a file right, and reads this history from its other lines
abbrev pub ReadsFile : ℕ → List ℕ → List Entries → Type 0
ReadsFile replica raw history = (clean : List ℕ) × IsClean raw clean × Reads replica clean history

-- a sheet of this replica, with the history that a start reads from the bytes of a file
pub record IsReadSheet (replica : ℕ) (sheet : SheetView) : Type 0 where
  pub is_sheet : IsSheet sheet
  pub replica_asked : sheet.replica ≡ replica
  pub bytes : List ℕ
  pub read : ReadsFile replica bytes sheet.history

-- the fault reports this trouble, or that allocation failed
abbrev pub TellsTrouble : KeptTrouble → ProgramFault → Type 0
TellsTrouble trouble fault =
    (fault ≡ Refused Memory) ⊎ ((kept : FileNotTaken) × (kept.trouble ≡ trouble) × (fault ≡ KeptFailed kept))

-- the fault reports a file that keeps its sheet no longer, or just that the device failed
abbrev pub TellsLoss : ProgramFault → Type 0
TellsLoss fault =
    (fault ≡ Refused Device)
    ⊎ ((kept : FileNotTaken) × (cause : Option FileCause) × (kept.trouble ≡ troubles.Lost cause)
    × (fault ≡ KeptFailed kept))

-- the fault reports why a file can't be used, or that allocation failed
abbrev pub IsUnusable : ProgramFault → Type 0
IsUnusable fault = (cause : FileCause) × TellsTrouble (troubles.Unusable cause) fault

-- the fault reports the first digest line of these bytes that isn't that of the lines before it, and the last one
-- before that, or that allocation failed
abbrev pub TellsDamageOf : List ℕ → ProgramFault → Type 0
TellsDamageOf raw fault = (damage : Damage) × IsDamage (whole_lines raw) damage
    × TellsTrouble (troubles.Damaged damage) fault

-- .. of the bytes of some file
abbrev pub TellsDamage : ProgramFault → Type 0
TellsDamage fault = (raw : List ℕ) × TellsDamageOf raw fault

-- why a start of this replica refuses the bytes of a file: the first line that may not stand there, or the replica
-- whose sheet it is
abbrev pub IsTroubleOf : ℕ → List ℕ → KeptTrouble → Type 0
IsTroubleOf replica bytes (troubles.Line number) = IsFaultOf replica bytes (keeps.Line number)
IsTroubleOf replica bytes (troubles.Replica other) = IsFaultOf replica bytes (keeps.Replica other)
IsTroubleOf replica bytes (troubles.Damaged damage) = ⊥
IsTroubleOf replica bytes troubles.Busy = ⊥
IsTroubleOf replica bytes (troubles.Unusable cause) = ⊥
IsTroubleOf replica bytes (troubles.Lost cause) = ⊥

-- why a start of this replica is refused with these bytes in its file: the bytes, out of memory, or a device that
-- failed
abbrev pub IsFileRefusal : ℕ → List ℕ → ProgramFault → Type 0
IsFileRefusal replica bytes (Refused Memory) = ⊤
IsFileRefusal replica bytes (Refused Device) = ⊤
IsFileRefusal replica bytes (KeptFailed kept) = IsTroubleOf replica bytes kept.trouble
IsFileRefusal replica bytes _ = ⊥

-- the same trouble of the same file, where a line has its number in the file
abbrev pub IsMoved : FileNotTaken → FileNotTaken → Type 0
IsMoved kept moved = (moved ≡ kept)
    ⊎ ((number place : ℕ) × (kept.trouble ≡ troubles.Line number) × (moved.trouble ≡ troubles.Line place))

-- the same fault, where a line has its number in the file
abbrev pub IsInFile : ProgramFault → ProgramFault → Type 0
IsInFile fault told = (told ≡ fault)
    ⊎ ((kept moved : FileNotTaken) × (fault ≡ KeptFailed kept) × IsMoved kept moved × (told ≡ KeptFailed moved))

-- why a start of this replica is refused with a file of these bytes whose digest lines are right
abbrev pub RefusesFile : ℕ → List ℕ → ProgramFault → Type 0
RefusesFile replica raw told = (clean : List ℕ) × (fault : ProgramFault) × IsClean raw clean
    × IsFileRefusal replica clean fault × IsInFile fault told
