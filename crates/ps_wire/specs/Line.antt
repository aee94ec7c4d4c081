-- The lines of deltas.
use Rattle.std.specs.Prelude.{◌≡◌, ◌≢◌, ◌≤◌, ℕ, List, length, Some, IsUtf8}
use Rattle.std.specs.List.{All}
use Rattle.serde_json.specs.Read.{read}
use Rattle.serde_json.specs.Written.{compact_text}
use Rattle.ps_delta.specs.Deltas.{Entries}
use Rattle.ps_wire.specs.Value.{IsLawful, delta_value}
use Rattle.ps_wire.specs.declared.TheConstants.{DELTA_LINE_LIMIT}

-- THE COMPACT TEXT OF A DELTA: what serde_json writes for its value, without blanks
unfoldable pub delta_text : Entries → List ℕ
delta_text delta = compact_text (delta_value delta)

-- the bytes are a line of the delta: not too long, UTF-8, and JSON that serde_json reads as the delta's value
pub record IsLine (bytes : List ℕ) (delta : Entries) : Type 0 where
  pub fits : length bytes ≤ DELTA_LINE_LIMIT
  pub utf8 : IsUtf8 bytes
  pub read : read bytes ≡ Some (delta_value delta)
  pub lawful : IsLawful delta

-- the text has no line feed
abbrev pub IsOneLine : List ℕ → Type 0
IsOneLine text = All (λ b. b ≢ 10) text

-- LAW: the compact text of a delta, whatever it holds, is one line
abbrev pub TextsAreOneLine : Type 0
TextsAreOneLine = (delta : Entries) → IsOneLine (delta_text delta)
