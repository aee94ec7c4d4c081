-- The lines that the reader of a source returns, and the bytes that it has still to read.
use Rattle.std.specs.Prelude.{◌≡◌, ◌+◌, ◌*◌, ◌-◌, ℕ, List, [], ◌∷◌, ◌++◌, Option, Some, None, true, take, drop}
use Rattle.std.specs.Prelude.{if◌then◌else◌}
use Rattle.std.specs.Io.KnownBytes.{Consumes, IsAtEnd, prepend_known}
use Rattle.ps_device.specs.declared.TheConstants.{PIECE_BYTES}
use Rattle.ps_device.specs.declared.device.Source.{Ghosts}
use Rattle.ps_lines.specs.Feeding.{HasNoFeed, kept}
use Rattle.ps_lines.specs.declared.incoming.Incoming.{Incoming}
use Rattle.ps_lines.specs.declared.incoming.NextLine.{NextLine}
use Rattle.ps_lines.specs.declared.line_buffer.Line.{Line}
use Rattle.ps_lines.specs.declared.line_buffer.Line.TheVariants as lines

-- the bytes still to come: those read into `piece` and not taken in yet (`start` to `end`), then those of the source
abbrev pub due : {S : Type 0} {G : Ghosts S} → (S → Option (List ℕ)) → Incoming S G → Option (List ℕ)
due remaining incoming = prepend_known
    (take (incoming.end - incoming.start) (drop incoming.start incoming.piece.items)) (remaining incoming.source)

-- the most lines that the reader can still end: one for each byte in `piece`, and `PIECE_BYTES + 1` for each later read
abbrev pub lines_left : {S : Type 0} {G : Ghosts S} → (S → ℕ) → Incoming S G → ℕ
lines_left left incoming = left incoming.source * (PIECE_BYTES + 1) + (incoming.end - incoming.start)

-- the line that was read last, with the carriage return that may be at its end
abbrev pub line_read : {S : Type 0} {G : Ghosts S} → Incoming S G → List ℕ
line_read incoming = incoming.lines.line

-- no byte of a line is held
abbrev pub IsBetweenLines : {S : Type 0} {G : Ghosts S} → Incoming S G → Type 0
IsBetweenLines incoming = incoming.lines.pending ≡ Some []

-- where the bytes come from
abbrev pub source_of : {S : Type 0} {G : Ghosts S} → Incoming S G → S
source_of incoming = incoming.source

-- `line` is what the buffer holds after a line with the bytes `raw`, or they are too many
abbrev pub IsHeld : Line → List ℕ → List ℕ → Type 0
IsHeld lines.None raw line = raw ≡ []
IsHeld lines.Full raw line = kept raw ≡ Some line
IsHeld lines.TooLong raw line = kept raw ≡ None

-- NEXT: a line was read with its line feed; or the input has ended, and the bytes after its last line feed were read
pub record IsNextLine (old new : Option (List ℕ)) (line : List ℕ) (next : NextLine) : Type 0 where
  pub raw : List ℕ
  pub one : HasNoFeed raw
  pub read : Consumes old new (raw ++ (if next.is_last then [] else 10 ∷ []))
  pub ended : next.is_last ≡ true → IsAtEnd new
  pub held : IsHeld next.line raw line
