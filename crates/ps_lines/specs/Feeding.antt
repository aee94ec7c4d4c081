-- How bytes are joined into lines. A line ends with a line feed, which isn't part of it. If a line is longer than the
-- limit, nothing of it is stored.
use Rattle.std.specs.Prelude.{◌≡◌, ◌≢◌, ◌-◌, ◌<◌, ℕ, Bool, List, [], ◌∷◌, ◌++◌, length, take, Option, Some, None}
use Rattle.std.specs.Prelude.{if◌then◌else◌, nat_eq, nat_le}
use Rattle.std.specs.List.{All, ends_with}
use Rattle.ps_lines.specs.declared.line_buffer.TheConstants.{LINE_LIMIT}
use Rattle.ps_lines.specs.declared.line_buffer.Line.{Line}
use Rattle.ps_lines.specs.declared.line_buffer.Line.TheVariants as lines

-- the bytes of a line that hasn't ended, or None if they are too many
abbrev pub held : Bool → List ℕ → Option (List ℕ)
held too_long bytes = if too_long then None else Some bytes

-- what is stored of a line with these bytes
abbrev pub kept : List ℕ → Option (List ℕ)
kept bytes = if nat_le (length bytes) LINE_LIMIT then Some bytes else None

abbrev pub kept_after : Option (List ℕ) → List ℕ → Option (List ℕ)
kept_after None part = None
kept_after (Some bytes) part = kept (bytes ++ part)

-- a buffer: the bytes of the line that hasn't ended, or None if they are too many; and the line that ended last
pub record Reading : Type 0 where
  pub pending : Option (List ℕ)
  -- the bytes of the line that ended last
  pub line : List ℕ

-- no byte is a line feed
abbrev pub HasNoFeed : List ℕ → Type 0
HasNoFeed bytes = All (λ b. b ≢ 10) bytes

-- the bytes end a line, and the part before the line feed has the property P
abbrev pub EndsLine : List ℕ → (List ℕ → Type 0) → Type 0
EndsLine bytes P = (part : List ℕ) × (bytes ≡ part ++ 10 ∷ []) × HasNoFeed part × P part

-- a buffer took in the bytes, and either none of them or only the last one ended a line
abbrev pub Feeds : Reading → Reading → List ℕ → Line → Type 0
Feeds old new bytes lines.None = HasNoFeed bytes × (new.pending ≡ kept_after old.pending bytes)
Feeds old new bytes lines.Full =
    EndsLine bytes (λ part. kept_after old.pending part ≡ Some new.line) × (new.pending ≡ Some [])
Feeds old new bytes lines.TooLong = EndsLine bytes (λ part. kept_after old.pending part ≡ None)
    × (new.pending ≡ Some [])

-- the input ends: bytes that remain without a line feed are a line
abbrev pub Ends : Reading → Reading → Line → Type 0
Ends old new lines.None = (old.pending ≡ Some []) × (new.pending ≡ Some [])
Ends old new lines.Full = (old.pending ≡ Some new.line) × (new.pending ≡ Some []) × (0 < length new.line)
Ends old new lines.TooLong = (old.pending ≡ None) × (new.pending ≡ Some [])

-- a line without the carriage return at its end
abbrev pub without_return : List ℕ → List ℕ
without_return bytes = if ends_with nat_eq bytes (13 ∷ []) then take (length bytes - 1) bytes else bytes

-- a buffer that holds this ended line, and no byte of another
abbrev pub with_line : List ℕ → Reading
with_line line = record { pending = Some []; line = line }

-- the buffer holds the bytes `raw` between two line feeds as a line, or they are too many
abbrev pub Holds : Line → Reading → List ℕ → Type 0
Holds lines.None buffer raw = ⊥
Holds lines.Full buffer raw = kept raw ≡ Some buffer.line
Holds lines.TooLong buffer raw = kept raw ≡ None
