-- How long the text of a delta is, how much of the text every join with the delta keeps, and when no line has room for
-- this part.
use Rattle.std.specs.Prelude.{◌≡◌, ℕ, ◌<◌, List, [], ◌∷◌, map as each, length}
use Rattle.std.specs.FinMap as map
use Rattle.serde_json.specs.Data.{Data, null, string}
use Rattle.serde_json.specs.Written.{compact_text}
use Rattle.ps_grid.specs.Place.{cell_name}
use Rattle.ps_delta.specs.declared.cell_state.CellState.{CellState}
use Rattle.ps_delta.specs.Deltas.{Entries, IsDelta, joined_history, state_of}
use Rattle.ps_delta.specs.State.{IsBelow}
use Rattle.ps_wire.specs.Line.{delta_text}
use Rattle.ps_wire.specs.Value.{array_of, count_value, pair_value}
use Rattle.ps_wire.specs.declared.TheConstants.{DELTA_LINE_LIMIT}

-- how long the text of a value is
abbrev pub size : Data → ℕ
size value = length (compact_text value)

-- the value of a cell with its register as null; joins never shorten the text of this value
abbrev pub bare_value : ℕ × CellState → Data
bare_value e =
    array_of (string (cell_name e.0) ∷ null ∷ array_of (each count_value (map.entries e.1.tally))
    ∷ array_of (each pair_value (map.entries e.1.choice)) ∷ [])

-- how long the text of a delta is with each register as null
abbrev pub lasting_size : Entries → ℕ
lasting_size delta = size (array_of (each bare_value delta))

-- no delta that holds all of this one has a line
abbrev pub OutgrowsLine : Entries → Type 0
OutgrowsLine delta =
    (more : Entries) → IsDelta more → IsBelow (state_of delta) (state_of more)
    → DELTA_LINE_LIMIT < length (delta_text more)

-- the join of the deltas has no line
abbrev pub HasNoLine : List Entries → Type 0
HasNoLine deltas =
    (joint : Entries) → IsDelta joint → state_of joint ≡ joined_history deltas
    → DELTA_LINE_LIMIT < length (delta_text joint)
