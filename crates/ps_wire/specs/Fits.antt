-- Deltas whose lines are never too long.
use Rattle.std.specs.Prelude.{◌≡◌, ◌≤◌, ℕ, List, [], ◌∷◌, length}
use Rattle.std.specs.List.{All}
use Rattle.std.specs.FinMap as map
use Rattle.ps_grid.specs.declared.size.TheConstants.{COLUMNS}
use Rattle.ps_delta.specs.declared.cell_state.CellState.{CellState}
use Rattle.ps_lattice.specs.News.{IsNewsOf}
use Rattle.ps_delta.specs.Deltas.{Entries, IsDelta, state_of}
use Rattle.ps_delta.specs.State.{State, joined_state}
use Rattle.ps_wire.specs.declared.TheConstants.{DELTA_LINE_LIMIT}
use Rattle.ps_wire.specs.Value.{IsLawful}
use Rattle.ps_wire.specs.Line.{delta_text, IsLine}

-- the delta's compact text is short enough for a line
abbrev pub FitsLine : Entries → Type 0
FitsLine delta = length (delta_text delta) ≤ DELTA_LINE_LIMIT

-- the state has no counts and no pairs, as the state that an assigned content makes
pub record HasRegisterAlone (state : CellState) : Type 0 where
  pub tally : state.tally ≡ map.empty
  pub choice : state.choice ≡ map.empty

-- LAW: a delta of at most as many cells as a row has, each with a register alone, fits a line. A batch of contents
-- makes such a delta
abbrev pub BatchesFit : Type 0
BatchesFit =
    (delta : Entries) → IsLawful delta → length delta ≤ COLUMNS → All (λ e. HasRegisterAlone e.1) delta → FitsLine delta

-- LAW: a delta of one cell, with any register, any counts, and any pairs of one option, fits a line. Each edit of one
-- cell makes such a delta
abbrev pub EditsFit : Type 0
EditsFit =
    (cell : ℕ) (state : CellState) (option : ℕ) → IsLawful ((cell, state) ∷ [])
    → All (λ p. p.0.option ≡ option) (map.entries state.choice) → FitsLine ((cell, state) ∷ [])

-- LAW: the compact text of a delta that was read from a line is no longer than the line, and fits one
abbrev pub DecodedFit : Type 0
DecodedFit =
    (bytes : List ℕ) (delta : Entries) → IsLine bytes delta
    → (length (delta_text delta) ≤ length bytes) × FitsLine delta

-- LAW: the news of a delta, which is what the delta adds to a state, is in range as the delta is. Its text is no longer
abbrev pub NewsFit : Type 0
NewsFit =
    (s : State) (delta news : Entries) → IsLawful delta → IsDelta news
    → IsNewsOf joined_state s (state_of delta) (state_of news)
    → IsLawful news × (length (delta_text news) ≤ length (delta_text delta))
