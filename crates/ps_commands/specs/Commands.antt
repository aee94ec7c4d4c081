-- What the commands begin with, and what they write.
use Rattle.std.specs.Prelude.{◌≡◌, ◌⊎◌, ◌==◌, ◌∷◌, ◌++◌, ⊤, ℕ, zero, suc, Bool, false, true, List, [], Option, None}
use Rattle.std.specs.Prelude.{Some, if◌then◌else◌, codes, decimal}
use Rattle.ps_grid.specs.Rectangle.{Area}
use Rattle.ps_delta.specs.Deltas.{joined_history}
use Rattle.ps_shown.specs.Shown.{shown_at}
use Rattle.ps_sheet.specs.Sheet.{IsSheet, SheetView}
use Rattle.ps_csv.specs.Exports.{exported, exported_entries, held_in}
use Rattle.ps_csv.specs.Faults.{ReaderFails, TableFault, WholeTable}
use Rattle.ps_csv.specs.Imports.{ImportsTable}
use Rattle.ps_join.specs.Joins.{IsJoined, IsStopped}
use Rattle.ps_join.specs.Relays.{IsHalted, IsRelayed, seen}
use Rattle.ps_join.specs.declared.fault.End.{End}
use Rattle.ps_join.specs.declared.fault.RelayFault.{RelayFault}
use Rattle.ps_peers.specs.Exchange as exchange
use Rattle.ps_peers.specs.Peers.{PeerView}
use Rattle.ps_peers.specs.declared.peer_pull.SyncFault.{SyncFault}
use Rattle.ps_squash.specs.declared.selection.Selection.{Selection}
use Rattle.ps_words.specs.declared.options.SquashOptions.{SquashOptions}
use Rattle.ps_commands.specs.Status.{sync_fault}
use Rattle.ps_commands.specs.declared.fault.ProgramFault.{ProgramFault}
use Rattle.ps_commands.specs.declared.fault.ProgramFault.TheVariants.{ReaderFailed, Refused}

-- the sheet is the empty one of this replica
pub record IsOpened (replica : ℕ) (sheet : SheetView) : Type 0 where
  pub is_sheet : IsSheet sheet
  pub history : sheet.history ≡ []
  pub replica_asked : sheet.replica ≡ replica

-- what the options of `squash` ask for of the lines
abbrev pub selection_of : SquashOptions → Selection
selection_of options = record { until = options.until; without = options.without }

-- so many rows and columns from A1 on
abbrev pub from_first : ℕ → ℕ → Area
from_first records fields = record { left = 0; top = 0; width = fields; height = records }

-- the table of a rectangle of a sheet: of the entries of its cells, or of what they show
abbrev pub cells_text : Bool → Area → SheetView → List ℕ
cells_text entries area sheet =
    if entries then exported_entries (held_in sheet.history) area else exported (shown_at sheet.shown) area

-- the table of so many rows and columns of a sheet; nothing where there are no records
abbrev pub table_of : Bool → ℕ → ℕ → SheetView → List ℕ
table_of entries records fields sheet =
    if records == 0 then [] else cells_text entries (from_first records fields) sheet

-- the empty sheet of replica 1 read the table of the bytes, and the text is the table of its entries, or else of what
-- it shows
pub record IsTableOf (entries : Bool) (bytes text : List ℕ) : Type 0 where
  pub records : ℕ
  pub fields : ℕ
  pub empty : SheetView
  pub filled : SheetView
  pub opened : IsOpened 1 empty
  pub taken : ImportsTable bytes records fields empty filled
  pub settled : IsSheet filled
  pub shown : text ≡ table_of entries records fields filled

-- what each fault means. A refusal is out of memory, a device, too many bytes, or the table's first fault for an empty
-- sheet; else `csv`'s own reader failed. The source had `old` left, and has `new`
abbrev pub IsCauseOf : Option (List ℕ) → Option (List ℕ) → ProgramFault → Type 0
IsCauseOf old new (Refused e) = TableFault (joined_history []) old new e
IsCauseOf old new (ReaderFailed error) = WholeTable old new (λ bytes. ReaderFails (joined_history []) bytes error)
IsCauseOf old new _ = ⊥

-- a line of a word, with its space, and a number
abbrev pub notice : List ℕ → ℕ → List ℕ
notice word number = word ++ decimal number ++ 10 ∷ []

-- what `sync` writes at the end: how many lines it pushed
abbrev pub synced_text : ℕ → List ℕ
synced_text lines = notice (codes "synced ") lines

-- all that one of two peers had was pushed to the other
abbrev pub AreSynced : Type 0
AreSynced = (from0 : PeerView) × (from1 : PeerView) × (to0 : PeerView) × (to1 : PeerView)
    × exchange.IsAll ⊥ 0 from0 from1 to0.asked to1.asked

-- .. was being pushed, until this fault ended it
pub record IsSyncFault (fault : ProgramFault) : Type 0 where
  pub cause : SyncFault
  pub from0 : PeerView
  pub from1 : PeerView
  pub to0 : PeerView
  pub to1 : PeerView
  pub is : fault ≡ sync_fault cause
  pub halted : exchange.IsHalted ⊥ ⊤ 0 from0 from1 to0.asked to1.asked

-- all that each of two peers had was merged at the other
abbrev pub AreJoined : Type 0
AreJoined = (from0 : PeerView) × (from1 : PeerView) × (to0 : PeerView) × (to1 : PeerView) × IsJoined from0 from1 to0 to1

-- two peers were joining, until one of them ended it with this fault
pub record IsJoinFault (fault : ProgramFault) : Type 0 where
  pub end : End
  pub cause : SyncFault
  pub from0 : PeerView
  pub from1 : PeerView
  pub to0 : PeerView
  pub to1 : PeerView
  pub is : fault ≡ sync_fault cause
  pub stopped : IsStopped false end from0 from1 to0 to1

-- the first of two peers is behind an input that has these bytes, and an output that has those, or else the second is
abbrev pub IsBehind : Bool → Option (List ℕ) → Option (List ℕ) → PeerView → PeerView → Type 0
IsBehind true to_come written from to = (from.to_come ≡ to_come) × (from.asked ≡ written)
IsBehind false to_come written from to = (to.to_come ≡ to_come) × (to.asked ≡ written)

-- all that each of two such peers had was merged at the other
abbrev pub ArePiped : Bool → Option (List ℕ) → Option (List ℕ) → Type 0
ArePiped is_first to_come written = (from0 : PeerView) × (from1 : PeerView) × (to0 : PeerView) × (to1 : PeerView)
    × IsBehind is_first to_come written from0 to0 × IsJoined from0 from1 to0 to1

-- two such peers were joining once, until one of them ended it with this fault
pub record IsPipeFault (is_first : Bool) (to_come written : Option (List ℕ)) (fault : ProgramFault) : Type 0 where
  pub end : End
  pub cause : SyncFault
  pub from0 : PeerView
  pub from1 : PeerView
  pub to0 : PeerView
  pub to1 : PeerView
  pub behind : IsBehind is_first to_come written from0 to0
  pub is : fault ≡ sync_fault cause
  pub stopped : IsStopped false end from0 from1 to0 to1

-- .. they were joining on and on, until this end ended it
abbrev pub IsPipeStopped : Bool → Option (List ℕ) → Option (List ℕ) → End → Type 0
IsPipeStopped is_first to_come written end = (from0 : PeerView) × (from1 : PeerView) × (to0 : PeerView)
    × (to1 : PeerView) × IsBehind is_first to_come written from0 to0 × IsStopped true end from0 from1 to0 to1

-- what `join` with `--once` writes at the end
abbrev pub joined_text : List ℕ
joined_text = codes "joined" ++ 10 ∷ []

-- what `serve` writes once it listens on a port ..
abbrev pub listening_text : ℕ → List ℕ
listening_text port = notice (codes "listening ") port

-- .. and once all sessions have ended, which leave a history of so many deltas
abbrev pub closed_text : ℕ → List ℕ
closed_text version = notice (codes "closed ") version

-- a server was relayed to its end, over a connection
abbrev pub IsThroughWith : Option (List ℕ) → Option (List ℕ) → Type 0
IsThroughWith before contents = (first : PeerView) × (last : PeerView) × (to_come : Option (List ℕ))
    × (left : Option (List ℕ)) × IsRelayed (seen first to_come before) (seen last left contents)

-- .. or until it ended early; or nothing was written
abbrev pub IsTried : Option (List ℕ) → Option (List ℕ) → Type 0
IsTried before contents = (contents ≡ before)
    ⊎ ((fault : RelayFault) × (held : List ℕ) × (first : PeerView) × (last : PeerView)
    × (to_come : Option (List ℕ)) × (left : Option (List ℕ))
    × IsHalted fault held (seen first to_come before) (seen last left contents))

-- .. so many times, over one connection after another
abbrev pub AreTried : ℕ → Option (List ℕ) → Option (List ℕ) → Type 0
AreTried zero before contents = contents ≡ before
AreTried (suc n) before contents =
    (middle : Option (List ℕ)) × AreTried n before middle × IsTried middle contents

-- what an attempt came to: no end was lost, or one was
abbrev pub IsAttempt : {A : Type 0} → Option (List ℕ) → Option (List ℕ) → Option A → Type 0
IsAttempt before contents None = IsThroughWith before contents
IsAttempt before contents (Some end) = IsTried before contents
