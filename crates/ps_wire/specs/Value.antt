-- The JSON value (RFC 8259) that stands for a delta: an array of its cells, each an array of four.
use Rattle.std.specs.Prelude.{◌≡◌, ℕ, Bool, true, false, IsTrue, List, [], ◌∷◌, map as each, Option, Some, None, IfSome}
use Rattle.std.specs.List.{All}
use Rattle.std.specs.FinMap as map
use Rattle.serde_json.specs.Data.{Data, unsigned, null, number, string, array}
use Rattle.serde_json.specs.View.{items_of}
use Rattle.ps_grid.specs.Place.{cell_name}
use Rattle.ps_lattice.specs.declared.register.Assignment.{Assignment}
use Rattle.ps_lattice.specs.declared.tally.Count.{Count}
use Rattle.ps_lattice.specs.declared.choice.Pair.{Pair}
use Rattle.ps_lattice.specs.Register.{is_stamp}
use Rattle.ps_lattice.specs.Tally.{is_tally}
use Rattle.ps_lattice.specs.Choice.{is_choice}
use Rattle.ps_content.specs.Content.{canonical_text, IsContent}
use Rattle.ps_content.specs.declared.content.Content.{Content}
use Rattle.ps_delta.specs.declared.cell_state.CellState.{CellState}
use Rattle.ps_delta.specs.Deltas.{Entries, IsDelta, AreInGrid}

-- an array of these values
abbrev pub array_of : List Data → Data
array_of values = array (items_of values)

-- a whole number without sign, fraction and exponent, as serde_json reads one of 64 bits
abbrev pub whole : ℕ → Data
whole n = number (unsigned n)

-- `null`, or an array of the time, the replica and the canonical text of the content
abbrev pub register_value : Option (Assignment Content) → Data
register_value None = null
register_value (Some a) = array_of (whole a.time ∷ whole a.replica ∷ string (canonical_text a.content) ∷ [])

-- the replica, what it added and what it subtracted
abbrev pub count_value : ℕ × Count → Data
count_value e = array_of (whole e.0 ∷ whole e.1.added ∷ whole e.1.subtracted ∷ [])

-- 0 for a pair that was only added, 1 for one that was also removed
abbrev pub gone_number : Bool → ℕ
gone_number false = 0
gone_number true = 1

-- the option, the replica, the sequence and whether the pair is gone
abbrev pub pair_value : Pair × Bool → Data
pair_value e =
    array_of (whole e.0.option ∷ whole e.0.replica ∷ whole e.0.sequence ∷ whole (gone_number e.1) ∷ [])

-- the name of the cell, its register, the counts of its counter and the pairs of its set
unfoldable pub cell_value : ℕ × CellState → Data
cell_value e =
    array_of (string (cell_name e.0) ∷ register_value e.1.register
    ∷ array_of (each count_value (map.entries e.1.tally)) ∷ array_of (each pair_value (map.entries e.1.choice)) ∷ [])

-- THE VALUE OF A DELTA: its cells
unfoldable pub delta_value : Entries → Data
delta_value delta = array_of (each cell_value delta)

-- the register holds nothing, or an assignment with a stamp in range and a valid content
abbrev pub IsRegister : Option (Assignment Content) → Type 0
IsRegister register = IfSome register (λ a. IsTrue (is_stamp a.time a.replica) × IsContent a.content)

-- each part of the state is in its ranges and in its order
pub record IsState (state : CellState) : Type 0 where
  pub register : IsRegister state.register
  pub tally : IsTrue (is_tally (map.entries state.tally))
  pub choice : IsTrue (is_choice (map.entries state.choice))

-- one or more cells of the grid, ascending and distinct, each with a state that is in range and not empty
pub record IsLawful (delta : Entries) : Type 0 where
  pub cells : IsDelta delta
  pub in_grid : AreInGrid delta
  pub states : All (λ e. IsState e.1) delta

-- the value stands for the delta
pub record StandsFor (value : Data) (delta : Entries) : Type 0 where
  pub lawful : IsLawful delta
  pub spelled : value ≡ delta_value delta

-- LAW: no two values stand for one delta
abbrev pub OneValue : Type 0
OneValue = (delta : Entries) (v w : Data) → StandsFor v delta → StandsFor w delta → v ≡ w

-- LAW: no two deltas stand for one value
abbrev pub OneDelta : Type 0
OneDelta = (value : Data) (d e : Entries) → StandsFor value d → StandsFor value e → d ≡ e
