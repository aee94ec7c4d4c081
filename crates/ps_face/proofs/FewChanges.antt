-- A patch changes no more cells than there are.
use Rattle.std.proofs.Common.{◌≡◌, ◌<◌, ◌≤◌, ℕ, List, [], ◌∷◌, ◌++◌, refl, length, map, ap, sym, subst, ◌∙◌}
use Rattle.std.proofs.Common.{⊎_elim, arith}
use Rattle.std.proofs.lemmas.Bool.{cases_lt}
use Rattle.std.proofs.lemmas.List.{length-map}
use Rattle.ps_grid.specs.Chains.{In}
use Rattle.ps_grid.specs.declared.size.TheConstants.{CELLS}
use Rattle.ps_grid.proofs.CycleLemmas.{IsCyclic-below}
use Rattle.ps_value.specs.declared.value.Value.TheVariants.{Empty}
use Rattle.ps_eval.specs.Items.{Assignment}
use Rattle.ps_delta.specs.State.{State, IsInGrid, empty_cell}
use Rattle.ps_delta.specs.Deltas.{AreInGrid, Entries, joined_history}
use Rattle.ps_cells.specs.Settled.{IsSettled, Cyclic, refers_to, value_of}
use Rattle.ps_cells.proofs.SettledValues.{refers_below}
use Rattle.ps_cells.proofs.ListedFormulas.{increasing_once}
use Rattle.ps_cells.proofs.CellCounts.{distinct_below_cells}
use Rattle.ps_face.specs.declared.patch.Note.{Note}
use Rattle.ps_face.specs.Legal.{Follows}
use Rattle.ps_face.proofs.Followed.{one_more_below}

nothing_held : (v : Assignment) → value_of empty_cell v ≡ Empty
unfolding empty_cell
nothing_held v = refl

-- outside the grid nothing is shown
nothing_outside : (s : State) (v : Assignment) → IsInGrid s → IsSettled s v → (c : ℕ) → CELLS ≤ c → v c ≡ Empty
nothing_outside s v inside settled c out =
    settled.value c (λ (k : Cyclic s c).
    let low : c < CELLS = IsCyclic-below (refers_to s) CELLS (refers_below s inside) c k in omega (arith, low, out))
    ∙ ap (λ x. value_of x v) (inside c out) ∙ nothing_held v

-- so a cell that changes lies in the grid
pub few_changes : (h : List Entries) (p : Note) → IsInGrid (joined_history h) → AreInGrid p.delta → Follows h p
    → length p.changes ≤ CELLS
few_changes h p inside delta f =
    let low : (c : ℕ) → In (map (λ e. e.0) p.changes) c → c < CELLS =
    λ c i. ⊎_elim (λ (lt : c < CELLS). lt)
    (λ (out : CELLS ≤ c). absurd ((f.changes.exact c).0 i
    (nothing_outside (joined_history (h ++ p.delta ∷ [])) f.after (one_more_below CELLS h p.delta delta inside)
    f.settles c out ∙ sym (nothing_outside (joined_history h) f.before inside f.settled c out))))
    (cases_lt c CELLS) in
    let most : length (map (λ e. e.0) p.changes) ≤ CELLS =
    distinct_below_cells (map (λ e. e.0) p.changes) (increasing_once (map (λ e. e.0) p.changes) f.changes.ascending) low
    in
    subst (λ n. n ≤ CELLS) (length-map p.changes (λ e. e.0)) most
