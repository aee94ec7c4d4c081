-- What a selection takes of deltas: the first of them, without what one replica stamped; and what is written for these.
use Rattle.std.specs.Prelude.{◌≡◌, ◌-◌, ◌==◌, ◌++◌, ◌∷◌, [], ℕ, List, Option, Some, None, if◌then◌else◌, not, take}
use Rattle.std.specs.Prelude.{map as each, option_map}
use Rattle.std.specs.FinMap as map
use Rattle.ps_lattice.specs.declared.register.Assignment.{Assignment}
use Rattle.ps_lattice.specs.Tally.{Counts}
use Rattle.ps_lattice.specs.Choice.{Pairs}
use Rattle.ps_delta.specs.declared.cell_state.CellState.{CellState}
use Rattle.ps_delta.specs.State.{State}
use Rattle.ps_delta.specs.Deltas.{AreEntries, Entries, joined_history}
use Rattle.ps_wire.specs.Fits.{FitsLine}
use Rattle.ps_lines.specs.Streams.{Splits, with_last}
use Rattle.ps_squash.specs.declared.selection.Selection.{Selection}
use Rattle.ps_squash.specs.Squashed.{Divide, SayAll, push_lines, told_line}

-- the register, unless this replica assigned it
abbrev pub register_without : {V : Type 0} → ℕ → Option (Assignment V) → Option (Assignment V)
register_without replica None = None
register_without replica (Some a) = if a.replica == replica then None else Some a

-- what all other replicas counted
abbrev pub counts_without : ℕ → Counts → Counts
counts_without replica t = map.retain_keys t (λ r. not (r == replica))

-- the pairs of all other replicas
abbrev pub pairs_without : ℕ → Pairs → Pairs
pairs_without replica c = map.retain_keys c (λ p. not (p.replica == replica))

-- the state of a cell without all that this replica assigned, counted and chose
abbrev pub cell_without : ℕ → CellState → CellState
cell_without replica s = record {
  register = register_without replica s.register;
  tally = counts_without replica s.tally;
  choice = pairs_without replica s.choice;
}

-- the cells of a delta, each without all that this replica assigned, counted and chose; a cell may become empty
abbrev pub delta_without : ℕ → Entries → Entries
delta_without replica delta = each (λ e. (e.0, cell_without replica e.1)) delta

-- the first n deltas, or all of them where no number is given
abbrev pub first_of : Option ℕ → List Entries → List Entries
first_of None deltas = deltas
first_of (Some n) deltas = take n deltas

-- each delta without what the replica stamped, where a replica is given
abbrev pub each_without : Option ℕ → List Entries → List Entries
each_without None deltas = deltas
each_without (Some replica) deltas = each (delta_without replica) deltas

-- what the selection takes of deltas
abbrev pub selected : Selection → List Entries → List Entries
selected selection deltas = each_without selection.without (first_of selection.until deltas)

-- the selection that remains after `count` deltas
abbrev pub still_after : Selection → ℕ → Selection
still_after selection count = record {
  until = option_map (λ n. n - count) selection.until;
  without = selection.without;
}

-- the replica that the first line of the bytes names, if it names one, and the join of what the selection takes of the
-- lines
pub record SelectedTogether (selection : Selection) (bytes : List ℕ) (told : Option ℕ) (state : State) : Type 0 where
  pub lines : List (List ℕ)
  pub rest : List ℕ
  pub split : Splits bytes lines rest
  pub deltas : List Entries
  pub said : SayAll (with_last lines rest) told deltas
  pub joined : state ≡ joined_history (selected selection deltas)

-- SQUASHED IN PART: the text begins with the line of the replica, if the first line of the bytes names one. Change
-- lines follow, as few as possible. They have each cell of what the selection takes once, in order, and have the same
-- join
pub record IsSquashedInPart (selection : Selection) (bytes text : List ℕ) : Type 0 where
  pub told : Option ℕ
  pub state : State
  pub given : SelectedTogether selection bytes told state
  pub fewer : List Entries
  pub cells : Entries
  pub ordered : AreEntries cells
  pub divide : Divide fewer cells
  pub spelled : text ≡ told_line told ++ push_lines fewer
  pub same : joined_history fewer ≡ state

-- the joined state of what the selection takes has a cell that is too long for a line
pub record HasWideCellInPart (selection : Selection) (bytes : List ℕ) : Type 0 where
  pub told : Option ℕ
  pub state : State
  pub given : SelectedTogether selection bytes told state
  pub cell : ℕ
  pub wide : ¬ FitsLine ((cell, state cell) ∷ [])
