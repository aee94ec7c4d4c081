-- What a start reads of a kept file, and why it is refused.
use Rattle.std.specs.Prelude.{◌≡◌, ◌≢◌, ◌⊎◌, ◌+◌, ◌≤◌, ℕ, List, [], ◌∷◌, ◌++◌, length, ⊤, Option, Some}
use mathlib.Core.List.{IsPrefix}
use Rattle.ps_grid.specs.declared.parties.TheConstants.{REPLICAS}
use Rattle.ps_delta.specs.State.{IsBelow}
use Rattle.ps_delta.specs.Deltas.{Entries, joined_history, state_of}
use Rattle.ps_sheet.specs.Sheet.{IsFresh}
use Rattle.ps_keep.specs.Crash.{IsLeft}
use Rattle.ps_keep.specs.Lines.{whole_lines}
use Rattle.ps_lines.specs.PushLine.{Pushes}
use Rattle.ps_lines.specs.ReplicaLine.{replica_line}
use Rattle.ps_kept.specs.Kept.{TellHistory}
use Rattle.ps_kept.specs.declared.fault.KeepFault.{KeepFault}
use Rattle.ps_kept.specs.declared.fault.KeepFault.TheVariants as faults

-- a file without any change: it has no whole line, and its bytes are a beginning of the first line
pub record IsUnbegun (replica : ℕ) (bytes : List ℕ) : Type 0 where
  pub no_line : whole_lines bytes ≡ []
  pub torn : IsPrefix bytes (replica_line replica)

-- the whole lines tell a history, and each delta of it adds something to those before it
pub record IsBegun (replica : ℕ) (bytes : List ℕ) (history : List Entries) : Type 0 where
  pub told : TellHistory replica (whole_lines bytes) history
  pub fresh : IsFresh history

-- READ: a start of this replica reads this history in a file of these bytes
abbrev pub Reads : ℕ → List ℕ → List Entries → Type 0
Reads replica bytes history = (IsUnbegun replica bytes × (history ≡ [])) ⊎ IsBegun replica bytes history

-- OUTLIVES: in the file after any crash, a start reads a beginning of `history`, with at least the changes of `kept`
abbrev pub Outlives : ℕ → List Entries → List Entries → List ℕ → ℕ → Type 0
Outlives replica kept history written synced =
    (left : List ℕ) → IsLeft written synced left
    → (read : List Entries) × Reads replica left read × IsPrefix kept read × IsPrefix read history

-- the line pushes a delta that adds something to the history
abbrev pub PushesNew : List Entries → List ℕ → Entries → Type 0
PushesNew history line delta = Pushes line delta × ¬ IsBelow (state_of delta) (joined_history history)

-- the first line names no replica; or there is no whole line, and the bytes aren't a beginning of the first line
abbrev pub HasNoFirst : ℕ → List ℕ → List (List ℕ) → Type 0
HasNoFirst replica bytes [] = ¬ IsPrefix bytes (replica_line replica)
HasNoFirst replica bytes (first ∷ others) = (n : ℕ) → 1 ≤ n → n ≤ REPLICAS → first ≢ replica_line n

-- the line with this number, from 1 on, is faulty: the lines before it tell a history, and it pushes no delta that adds
-- something to this history
pub record IsFaulty (replica : ℕ) (lines : List (List ℕ)) (number : ℕ) : Type 0 where
  pub before : List (List ℕ)
  pub line : List ℕ
  pub after : List (List ℕ)
  pub is : lines ≡ before ++ line ∷ after
  pub counts : number ≡ length before + 1
  pub history : List Entries
  pub told : TellHistory replica before history
  pub fresh : IsFresh history
  pub faulty : (delta : Entries) → ¬ PushesNew history line delta

-- the first line names this other replica
abbrev pub IsOther : ℕ → List (List ℕ) → ℕ → Type 0
IsOther replica [] other = ⊥
IsOther replica (first ∷ others) other = (first ≡ replica_line other) × (first ≢ replica_line replica)

-- the caller gets the file back as it was
abbrev pub ComesBack : {F : Type 0} → (F → List ℕ) → List ℕ → Option F → Type 0
ComesBack {F} bytes_of bytes back = (f : F) × (back ≡ Some f) × (bytes_of f ≡ bytes)

-- the caller gets the file back as it was, unless the file had no whole line yet
abbrev pub ComesBackOrEmpty : {F : Type 0} → (F → List ℕ) → List ℕ → Option F → Type 0
ComesBackOrEmpty {F} bytes_of bytes back = ComesBack bytes_of bytes back ⊎ (whole_lines bytes ≡ [])

-- why the lines of these bytes aren't read
abbrev pub IsFaultOf : ℕ → List ℕ → KeepFault → Type 0
IsFaultOf replica bytes faults.Memory = ⊤
IsFaultOf replica bytes faults.Device = ⊥
IsFaultOf replica bytes (faults.Line number) =
    ((number ≡ 1) × HasNoFirst replica bytes (whole_lines bytes)) ⊎ IsFaulty replica (whole_lines bytes) number
IsFaultOf replica bytes (faults.Replica other) = IsOther replica (whole_lines bytes) other

-- why a start fails, and whether the caller gets the file back: with `Line` and `Replica` always; with `Memory` unless
-- the file had no whole line yet; with `Device` either way
abbrev pub IsRefusal : {F : Type 0} → (F → List ℕ) → ℕ → List ℕ → KeepFault → Option F → Type 0
IsRefusal bytes_of replica bytes faults.Memory back = ComesBackOrEmpty bytes_of bytes back
IsRefusal bytes_of replica bytes faults.Device back = ⊤
IsRefusal bytes_of replica bytes (faults.Line number) back =
    ComesBack bytes_of bytes back × IsFaultOf replica bytes (faults.Line number)
IsRefusal bytes_of replica bytes (faults.Replica other) back =
    ComesBack bytes_of bytes back × IsFaultOf replica bytes (faults.Replica other)
