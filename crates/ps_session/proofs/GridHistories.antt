-- A delta of cells of the grid leaves all other cells as they are.
use Rattle.std.proofs.Common.{◌≡◌, ◌≢◌, ◌<◌, ◌≤◌, ℕ, [], ◌∷◌, refl, ap, ◌∙◌, arith}
use Rattle.std.specs.List.{All}
use Rattle.std.proofs.lemmas.List.Elements.{All-head, All-tail}
use Rattle.ps_grid.specs.declared.size.TheConstants.{CELLS}
use Rattle.ps_delta.specs.declared.cell_state.CellState.{CellState}
use Rattle.ps_delta.specs.CellLaws.{joined_cell-empty_right}
use Rattle.ps_delta.specs.State.{State, IsInGrid, empty_cell, joined_cell, joined_state}
use Rattle.ps_delta.specs.Deltas.{Entries, state_of}
use Rattle.ps_delta.proofs.EntryLemmas.{state_of-there}
use Rattle.ps_delta.proofs.StateLemmas.{joined_state-at}

nothing : (c : ℕ) → state_of [] c ≡ empty_cell
unfolding state_of
nothing c = refl

-- a delta of cells of the grid holds nothing outside it
empty_outside : (d : Entries) (c : ℕ) → All (λ e. e.0 < CELLS) d → CELLS ≤ c → state_of d c ≡ empty_cell
empty_outside [] c inside out = nothing c
empty_outside (e ∷ es) c inside out =
    let here : e.0 < CELLS = All-head (λ (x : ℕ × CellState). x.0 < CELLS) e es inside in
    let ne : e.0 ≢ c = λ p. omega (arith, here, p, out) in
    state_of-there e es c ne ∙ empty_outside es c (All-tail (λ (x : ℕ × CellState). x.0 < CELLS) e es inside) out

-- no cell outside the grid holds anything after such a delta is joined in
pub in_grid_after : (s : State) (d : Entries) → IsInGrid s → All (λ e. e.0 < CELLS) d
    → IsInGrid (joined_state s (state_of d))
in_grid_after s d held inside c out =
    joined_state-at s (state_of d) c
    ∙ (ap (joined_cell (s c)) (empty_outside d c inside out) ∙ (joined_cell-empty_right (s c) ∙ held c out))
