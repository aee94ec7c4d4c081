-- One step of a walk over a delta's entries, at the entry e with the index i, whose cell holds x.
use Rattle.std.proofs.Common.{◌≡◌, ◌≢◌, ℕ, ◌+◌, ◌<◌, List, [], ◌∷◌}
use Rattle.std.proofs.Common.{◌++◌, length, get_or, take, sym, ap, ◌∙◌, subst, arith}
use Rattle.std.proofs.lemmas.List.{take_more}
use Rattle.std.specs.List.{All}
use Rattle.ps_grid.specs.declared.size.TheConstants.{CELLS}
use Rattle.ps_delta.specs.declared.cell_state.CellState.{CellState}
use Rattle.ps_delta.specs.State.{State, joined_cell, joined_state, IsBelow, AreTouched}
use Rattle.ps_delta.specs.Deltas.{Entries, cells_of, AreInGrid, IsDelta, state_of}
use Rattle.ps_delta.specs.Order.{Rising, Under}
use Rattle.ps_delta.proofs.CellLists.{rising_from_increasing}
use Rattle.ps_delta.proofs.EntryLemmas.{under_entry}
use Rattle.ps_delta.proofs.GridLemmas.{below_more, not_below, touched_same, touched_more, touched_under, In-at}

pub rising_of : (es : Entries) → IsDelta es → Rising 0 (cells_of es)
rising_of es delta = rising_from_increasing 0 (cells_of es) delta.ascending (λ _. omega arith)

pub walk-in_grid : (es : Entries) (i : ℕ) (e : ℕ × CellState) → i < length es → e ≡ get_or es i e → AreInGrid es
    → e.0 < CELLS
walk-in_grid es i e within is grid = subst (λ d. d.0 < CELLS) (sym is) (grid i e within)

module _ (s : State) (es : Entries) (i : ℕ) (e : ℕ × CellState) (x : CellState)
    (delta : IsDelta es) (within : i < length es) (is : e ≡ get_or es i e) (holds : x ≡ s e.0) where
  pub so_far : take i es ++ e ∷ [] ≡ take (i + 1) es
  so_far = ap (λ d. take i es ++ d ∷ []) is ∙ sym (take_more es i e within)

  pub walk-under : Under e.0 (cells_of (take i es))
  walk-under = subst (λ d. Under d.0 (cells_of (take i es))) (sym is) (under_entry 0 es i e (rising_of es delta) within)

  pub walk-below : joined_cell x e.1 ≡ x → IsBelow (state_of (take i es)) s → IsBelow (state_of (take (i + 1) es)) s
  walk-below h b =
      subst (λ ds. IsBelow (state_of ds) s) so_far
      (below_more s (take i es) e walk-under b (subst (λ y. joined_cell y e.1 ≡ y) holds h))

  pub walk-not_below : joined_cell x e.1 ≢ x → ¬ IsBelow (state_of es) s
  walk-not_below h =
      not_below s 0 es i e (rising_of es delta) within
      (subst (λ d. joined_cell (s d.0) d.1 ≢ s d.0) is (subst (λ y. joined_cell y e.1 ≢ y) holds h))

  pub walk-same : (cs : List ℕ) → joined_cell x e.1 ≡ x → AreTouched s (joined_state s (state_of (take i es))) cs
      → AreTouched s (joined_state s (state_of (take (i + 1) es))) cs
  walk-same cs h t =
      subst (λ ds. AreTouched s (joined_state s (state_of ds)) cs) so_far
      (touched_same s (take i es) e cs walk-under (subst (λ y. joined_cell y e.1 ≡ y) holds h) t)

  pub walk-more : (cs : List ℕ) → joined_cell x e.1 ≢ x → AreTouched s (joined_state s (state_of (take i es))) cs
      → AreTouched s (joined_state s (state_of (take (i + 1) es))) (cs ++ e.0 ∷ [])
  walk-more cs h t =
      subst (λ ds. AreTouched s (joined_state s (state_of ds)) (cs ++ e.0 ∷ [])) so_far
      (touched_more s (take i es) e cs walk-under (subst (λ y. joined_cell y e.1 ≢ y) holds h) t)

  pub walk-last : (cs : List ℕ) → AreTouched s (joined_state s (state_of (take i es))) cs → All (λ c. c < e.0) cs
  walk-last cs t k d h = touched_under s (take i es) e.0 cs walk-under t (get_or cs k d) (In-at cs k d h)

-- one more entry of the first ones
pub more_entries : (es : Entries) (i : ℕ) (e : ℕ × CellState) → i < length es → e ≡ get_or es i e
    → take i es ++ e ∷ [] ≡ take (i + 1) es
more_entries es i e within is = ap (λ d. take i es ++ d ∷ []) is ∙ sym (take_more es i e within)
