-- What the contracts of private functions say. No contract of a public function cites these definitions.
use Rattle.std.specs.Prelude.{◌≡◌, ◌≢◌, ◌⊎◌, ◌+◌, ◌-◌, ◌^◌, ◌<◌, ℕ, List, [], ◌∷◌, ◌++◌, length, min}
use Rattle.std.specs.Prelude.{Bool, Contains, Option, Some, None, nat_lt, true, ⊤}
use Rattle.std.specs.Option.{option_map_or}
use Rattle.std.specs.List.{All}
use Rattle.ps_delta.specs.declared.cell_state.CellState.{CellState}
use Rattle.ps_delta.specs.State.{State, empty_cell, empty_state, joined_state}
use Rattle.ps_delta.specs.Deltas.{AreEntries, Entries, IsDelta, cells_of, joined_history}
use Rattle.ps_delta.specs.Order.{Rising}
use Rattle.ps_wire.specs.Fits.{FitsLine}
use Rattle.ps_wire.specs.Length.{size}
use Rattle.ps_wire.specs.Value.{cell_value}
use Rattle.ps_lines.specs.Feeding.{kept}
use Rattle.ps_lines.specs.Streams.{Splits}
use Rattle.ps_lines.specs.declared.kept_line.KeptLine.{KeptLine}
use Rattle.ps_lines.specs.declared.kept_line.KeptLine.TheVariants as kept_lines
use Rattle.ps_wire.specs.Line.{IsLine, delta_text}
use Rattle.ps_squash.specs.Squashed.{AreFull, Divide, FirstFault, FirstSays, SayAll, Says, cells_in, push_lines}
use Rattle.ps_squash.specs.Squashed.{told_line}
use Rattle.ps_squash.specs.Selected.{selected, still_after}
use Rattle.ps_squash.specs.declared.fault.SquashFault.{SquashFault}
use Rattle.ps_squash.specs.declared.selection.Selection.{Selection}
use Rattle.ps_squash.specs.declared.fault.SquashFault.TheVariants as faults

-- what a first line is read as: nothing if it is silent, the replica if it names one, or else its delta
abbrev pub IsRead : List ℕ → Option KeptLine → Type 0
IsRead line None = FirstSays line None []
IsRead line (Some (kept_lines.Replica n)) = FirstSays line (Some n) []
IsRead line (Some (kept_lines.Push d)) = FirstSays line None (d ∷ [])

-- what a line says after `count` lines: only the first line may name the replica
abbrev pub NextSays : ℕ → Option ℕ → List ℕ → Option ℕ → List Entries → Type 0
NextSays count before line after deltas =
    ((count ≡ 0) × FirstSays line after deltas) ⊎ ((0 < count) × (after ≡ before) × Says line deltas)

-- whether the selection takes one more delta
abbrev pub is_taken : Selection → Bool
is_taken selection = option_map_or (λ n. nat_lt 0 n) selection.until true

-- what was joined so far, and the selection for the deltas to come
pub record Sum : Type 0 where
  pub state : State
  pub still : Selection

abbrev pub sum_of : State → Selection → Sum
sum_of state still = record { state = state; still = still }

-- the sum before the first delta
abbrev pub sum_before : Selection → Sum
sum_before selection = sum_of empty_state selection

-- the sum after these deltas
abbrev pub sum_after : Sum → List Entries → Sum
sum_after sum deltas =
    sum_of (joined_state sum.state (joined_history (selected sum.still deltas)))
    (still_after sum.still (length deltas))

-- after these bytes were read: what the selection takes of their complete lines was joined, and the buffer has the rest
pub record StandsAfter (asked : Selection) (read : List ℕ) (pending : Option (List ℕ)) (told : Option ℕ) (sum : Sum)
    (count : ℕ) : Type 0 where
  pub lines : List (List ℕ)
  pub rest : List ℕ
  pub split : Splits read lines rest
  pub held : pending ≡ kept rest
  pub deltas : List Entries
  pub said : SayAll lines told deltas
  pub joined : sum ≡ sum_after (sum_before asked) deltas
  pub counted : count ≡ min (length lines) (2 ^ 64 - 1)

-- whatever was read before, reading these bytes leads from the first state to the second
abbrev pub GoesOn : List ℕ → Option (List ℕ) → Option ℕ → Sum → ℕ → Option (List ℕ) → Option ℕ → Sum → ℕ → Type 0
GoesOn bytes held first before count pending told sum number =
    (asked : Selection) → (read : List ℕ) → StandsAfter asked read held first before count
    → StandsAfter asked (read ++ bytes) pending told sum number

-- .. or one of the lines that ended among these bytes is the first faulty one
abbrev pub Fails : Type 0 → List ℕ → Option (List ℕ) → Option ℕ → Sum → ℕ → ℕ → Type 0
Fails ended bytes held told before count number =
    (asked : Selection) → (read : List ℕ) → StandsAfter asked read held told before count
    → FirstFault ended (read ++ bytes) number

-- how long the text of a cell is
abbrev pub cell_size : ℕ × CellState → ℕ
cell_size e = size (cell_value e)

-- .. with the byte after it: a comma or the last bracket
abbrev pub ended_size : ℕ → ℕ
ended_size n = 1 + n

-- one of the cells alone is too long for a line
abbrev pub HasWide : Entries → Type 0
HasWide entries = (e : ℕ × CellState) × Contains entries e × ¬ FitsLine (e ∷ [])

-- the faults of taking in lines, and of reading a source of lines
abbrev pub IsOfLines : SquashFault → Type 0
IsOfLines faults.Memory = ⊤
IsOfLines (faults.Line number) = ⊤
IsOfLines _ = ⊥

abbrev pub IsOfIntake : SquashFault → Type 0
IsOfIntake faults.Source = ⊤
IsOfIntake fault = IsOfLines fault

-- the text names the replica, if there is one, and its change lines push exactly the state: their deltas divide the
-- state's cells in order
pub record IsText (told : Option ℕ) (state : State) (text : List ℕ) : Type 0 where
  pub fewer : List Entries
  pub cells : Entries
  pub ordered : AreEntries cells
  pub divide : Divide fewer cells
  pub spelled : text ≡ told_line told ++ push_lines fewer
  pub same : joined_history fewer ≡ state

-- after the earlier text stand full change lines for the first of the cells, and the cells `left` have none yet
pub record AreWritten (cells left : Entries) (before text : List ℕ) : Type 0 where
  pub deltas : List Entries
  pub spelled : text ≡ before ++ push_lines deltas
  pub whole : cells_in deltas ++ left ≡ cells
  pub lawful : All IsDelta deltas
  pub each : All (λ d. IsLine (delta_text d) d) deltas
  pub full : AreFull deltas left
  pub rising : Rising 0 (cells_of left)
  pub none_empty : All (λ e. e.1 ≢ empty_cell) left
