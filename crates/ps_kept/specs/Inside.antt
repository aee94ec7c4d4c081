-- What the contracts of private functions say. No contract of a public function cites these definitions.
use Rattle.std.specs.Prelude.{◌≡◌, ◌+◌, ◌-◌, ◌≤◌, ℕ, List, [], ◌∷◌, ◌++◌, drop, length, ⊤}
use Rattle.ps_delta.specs.Deltas.{Entries}
use Rattle.ps_sheet.specs.Sheet.{IsFresh}
use Rattle.ps_keep.specs.Lines.{whole_lines}
use Rattle.ps_kept.specs.Kept.{PushAll}
use Rattle.ps_kept.specs.Starts.{PushesNew}
use Rattle.ps_kept.specs.declared.fault.KeepFault.{KeepFault}
use Rattle.ps_kept.specs.declared.fault.KeepFault.TheVariants as faults

-- the lines of `bytes`, which come after a file's first line, push this history up to `left`. The last line before
-- `left` has this number in the file
pub record ReadSoFar (bytes left : List ℕ) (number : ℕ) (history : List Entries) : Type 0 where
  pub done : List (List ℕ)
  pub is : whole_lines bytes ≡ done ++ whole_lines left
  pub told : PushAll done history
  pub counts : number ≡ length done + 1
  pub within : number + length left ≤ length bytes + 1

-- among these lines, which come after a file's first line, one pushes no delta that is new to those before it. It has
-- this number in the file
pub record IsFaultyPush (lines : List (List ℕ)) (number : ℕ) : Type 0 where
  pub before : List (List ℕ)
  pub line : List ℕ
  pub after : List (List ℕ)
  pub is : lines ≡ before ++ line ∷ after
  pub counts : number ≡ length before + 1 + 1
  pub history : List Entries
  pub told : PushAll before history
  pub fresh : IsFresh history
  pub faulty : (delta : Entries) → ¬ PushesNew history line delta

-- why these lines, which come after a file's first line, aren't read
abbrev pub IsPushFault : List (List ℕ) → KeepFault → Type 0
IsPushFault lines faults.Memory = ⊤
IsPushFault lines faults.Device = ⊥
IsPushFault lines (faults.Line number) = IsFaultyPush lines number
IsPushFault lines (faults.Replica other) = ⊥

-- these lines have so many changes: one for each line after the first
abbrev pub IsDue : ℕ → List (List ℕ) → Type 0
IsDue changes [] = changes ≡ 0
IsDue changes (first ∷ others) = changes ≡ length others

-- why a file with these lines isn't opened as a journal: the device failed, or there was no memory for a first line
abbrev pub IsKeepFault : List (List ℕ) → KeepFault → Type 0
IsKeepFault lines faults.Memory = lines ≡ []
IsKeepFault lines faults.Device = ⊤
IsKeepFault lines (faults.Line number) = ⊥
IsKeepFault lines (faults.Replica other) = ⊥

-- the changes of the history that the lines don't have yet: each line after the first has one change
abbrev pub later : List (List ℕ) → List Entries → List Entries
later lines history = drop (length lines - 1) history
