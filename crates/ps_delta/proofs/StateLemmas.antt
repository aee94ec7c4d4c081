-- Joins of states, and a state with one cell changed.
use Rattle.std.proofs.Common.{◌≡◌, ◌≢◌, ℕ, if◌then◌else◌, refl, sym, ap, ◌∙◌, eq-eqb, ne_eqb}
use Rattle.std.proofs.Math.Path.{fun_ext}
use Rattle.ps_delta.specs.declared.cell_state.CellState.{CellState}
use Rattle.ps_delta.specs.State.{State, empty_state, joined_cell, joined_state, with_cell}
use Rattle.ps_delta.specs.CellLaws.{joined_cell-comm, joined_cell-assoc, joined_cell-idem, joined_cell-empty}

pub joined_state-at : (s t : State) (c : ℕ) → joined_state s t c ≡ joined_cell (s c) (t c)
unfolding joined_state
joined_state-at s t c = refl

pub joined_state-comm : (s t : State) → joined_state s t ≡ joined_state t s
unfolding joined_state
joined_state-comm s t = fun_ext (λ c. joined_cell-comm (s c) (t c))

pub joined_state-assoc : (s t u : State) → joined_state (joined_state s t) u ≡ joined_state s (joined_state t u)
unfolding joined_state
joined_state-assoc s t u = fun_ext (λ c. joined_cell-assoc (s c) (t c) (u c))

pub joined_state-idem : (s : State) → joined_state s s ≡ s
unfolding joined_state
joined_state-idem s = fun_ext (λ c. joined_cell-idem (s c))

pub joined_state-empty : (s : State) → joined_state empty_state s ≡ s
unfolding joined_state empty_state
joined_state-empty s = fun_ext (λ c. joined_cell-empty (s c))

pub joined_state-empty_right : (s : State) → joined_state s empty_state ≡ s
joined_state-empty_right s = joined_state-comm s empty_state ∙ joined_state-empty s

-- the last two of three may change places
pub joined_state-swap : (s t u : State) → joined_state (joined_state s t) u ≡ joined_state (joined_state s u) t
joined_state-swap s t u =
    joined_state-assoc s t u ∙ ap (joined_state s) (joined_state-comm t u) ∙ sym (joined_state-assoc s u t)

pub with_cell-same : (s : State) (c : ℕ) (x : CellState) → with_cell s c x c ≡ x
unfolding with_cell
with_cell-same s c x = ap (λ b. if b then x else s c) (eq-eqb c c refl)

pub with_cell-other : (s : State) (cell c : ℕ) (x : CellState) → cell ≢ c → with_cell s cell x c ≡ s c
unfolding with_cell
with_cell-other s cell c x h = ap (λ b. if b then x else s c) (ne_eqb cell c h)
