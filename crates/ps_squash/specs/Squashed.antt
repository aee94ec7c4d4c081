-- What delta lines say together, and the fewer lines that say the same.
use Rattle.std.specs.Prelude.{◌≡◌, ◌⊎◌, ◌+◌, ◌-◌, ◌^◌, ℕ, List, [], ◌∷◌, ◌++◌, Option, Some, None, ⊤}
use Rattle.std.specs.Prelude.{drop, flat_map, if◌then◌else◌, length, min, nat_eq}
use Rattle.std.specs.List.{All, starts_with}
use Rattle.ps_delta.specs.State.{State}
use Rattle.ps_delta.specs.Deltas.{AreEntries, Entries, IsDelta, joined_history}
use Rattle.ps_wire.specs.Fits.{FitsLine}
use Rattle.ps_wire.specs.Line.{IsLine, delta_text}
use Rattle.ps_lines.specs.DigestLine.{IsDigestLine}
use Rattle.ps_lines.specs.Feeding.{HasNoFeed, without_return}
use Rattle.ps_lines.specs.PushLine.{push_line, push_word}
use Rattle.ps_lines.specs.ReplicaLine.{Tells, TellsNone, replica_line}
use Rattle.ps_lines.specs.Streams.{IsAfterLine, Splits, stream_of, with_last}

-- ---- lines in

-- all after the word `push `, or the whole line where it doesn't begin with this word
abbrev pub after_push : List ℕ → List ℕ
after_push line = if starts_with nat_eq line push_word then drop 5 line else line

-- a line without its return that says nothing: it is empty, or it has a digest
abbrev pub IsSilent : List ℕ → Type 0
IsSilent line = (line ≡ []) ⊎ IsDigestLine line

-- what a line without its return says: nothing, or the delta whose line it is, perhaps after `push `
unfoldable pub Says : List ℕ → List Entries → Type 0
Says line deltas =
    (IsSilent line × (deltas ≡ [])) ⊎ ((d : Entries) × IsLine (after_push line) d × (deltas ≡ d ∷ []))

-- what lines say, one after another
abbrev pub Say : List (List ℕ) → List Entries → Type 0
Say [] deltas = deltas ≡ []
Say (line ∷ lines) deltas = (first : List Entries) × (others : List Entries)
    × Says (without_return line) first × Say lines others × (deltas ≡ first ++ others)

-- what a first line says: it names a replica, and pushes nothing; or it names none, and is a line like the others
abbrev pub FirstSays : List ℕ → Option ℕ → List Entries → Type 0
FirstSays line (Some n) deltas = Tells line n × (deltas ≡ [])
FirstSays line None deltas = TellsNone line × Says line deltas

-- what all lines say; the first of them may name the replica
abbrev pub SayAll : List (List ℕ) → Option ℕ → List Entries → Type 0
SayAll [] told deltas = (told ≡ None) × (deltas ≡ [])
SayAll (line ∷ lines) told deltas = (first : List Entries) × (others : List Entries)
    × FirstSays (without_return line) told first × Say lines others × (deltas ≡ first ++ others)

-- the replica that the first line of the bytes names, if it names one, and the join of what all lines say
pub record SayTogether (bytes : List ℕ) (told : Option ℕ) (state : State) : Type 0 where
  pub lines : List (List ℕ)
  pub rest : List ℕ
  pub split : Splits bytes lines rest
  pub deltas : List Entries
  pub said : SayAll (with_last lines rest) told deltas
  pub joined : state ≡ joined_history deltas

-- the line with this number is faulty, and no line before it is. A line is faulty if it says something, but neither a
-- delta nor, as the first line, a replica. Numbers count from 1, and 2^64 - 1 stands for more. If nothing stands after
-- the line, not even a line feed, `ended` holds
pub record FirstFault (ended : Type 0) (bytes : List ℕ) (number : ℕ) : Type 0 where
  pub lines : List (List ℕ)
  pub line : List ℕ
  pub after : List ℕ
  pub whole : bytes ≡ stream_of lines (line ++ after)
  pub each : All HasNoFeed lines
  pub one : HasNoFeed line
  pub ends : IsAfterLine ended after
  pub told : Option ℕ
  pub deltas : List Entries
  pub said : SayAll lines told deltas
  pub faulty : (others : List Entries) → ¬ Says (without_return line) others
  pub untold : lines ≡ [] → TellsNone (without_return line)
  pub counted : number ≡ min (length lines + 1) (2 ^ 64 - 1)

-- ---- lines out

-- the line that names a replica, with its line feed; nothing where there is no replica
abbrev pub told_line : Option ℕ → List ℕ
told_line None = []
told_line (Some n) = replica_line n ++ 10 ∷ []

-- the line that pushes a delta, with its line feed
abbrev pub ended_line : Entries → List ℕ
ended_line delta = push_line delta ++ 10 ∷ []

-- the change lines of these deltas, one after another
abbrev pub push_lines : List Entries → List ℕ
push_lines deltas = flat_map ended_line deltas

-- all cells of these deltas, one delta after another
abbrev pub cells_in : List Entries → Entries
cells_in deltas = flat_map (λ d. d) deltas

-- a delta's line has no room for the first of the cells that come after it
abbrev pub HasNoRoomFor : Entries → Entries → Type 0
HasNoRoomFor delta [] = ⊤
HasNoRoomFor delta (entry ∷ entries) = ¬ FitsLine (delta ++ entry ∷ [])

-- no delta's line has room for the first cell after the delta; `next` stands after all of the deltas
abbrev pub AreFull : List Entries → Entries → Type 0
AreFull [] next = ⊤
AreFull (d ∷ []) next = HasNoRoomFor d next
AreFull (d ∷ e ∷ es) next = HasNoRoomFor d e × AreFull (e ∷ es) next

-- the deltas divide the cells in order. Each delta has a line, and none has room for the first cell of the next
pub record Divide (deltas : List Entries) (cells : Entries) : Type 0 where
  pub whole : cells_in deltas ≡ cells
  pub lawful : All IsDelta deltas
  pub each : All (λ d. IsLine (delta_text d) d) deltas
  pub full : AreFull deltas []

-- SQUASHED: the text begins with the line of the replica, if the first line of the bytes names one. Change lines
-- follow, as few as possible. They have each cell of the joined lines once, in order, and have the same join
pub record IsSquashed (bytes text : List ℕ) : Type 0 where
  pub told : Option ℕ
  pub state : State
  pub given : SayTogether bytes told state
  pub fewer : List Entries
  pub cells : Entries
  pub ordered : AreEntries cells
  pub divide : Divide fewer cells
  pub spelled : text ≡ told_line told ++ push_lines fewer
  pub same : joined_history fewer ≡ state

-- the joined state of the lines has a cell that is too long for a line
pub record HasWideCell (bytes : List ℕ) : Type 0 where
  pub told : Option ℕ
  pub state : State
  pub given : SayTogether bytes told state
  pub cell : ℕ
  pub wide : ¬ FitsLine ((cell, state cell) ∷ [])
