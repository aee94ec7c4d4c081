-- What is known when a change begins.
use Rattle.std.proofs.Common.{◌≡◌, ◌<◌, ℕ, true, false, [], ◌∷◌, sym, ap, ◌∙◌, subst, ⊎_elim, arith}
use Rattle.std.specs.List.{All}
use Rattle.ps_grid.specs.declared.size.TheConstants.{CELLS}
use Rattle.ps_grid.specs.Chains.{In}
use Rattle.ps_grid.proofs.ChainLemmas.{In-cases}
use Rattle.std.proofs.lemmas.List.Elements.{All-head, All-tail}
use Rattle.ps_delta.specs.declared.cell_state.CellState.{CellState}
use Rattle.ps_eval.specs.Items.{Assignment}
use Rattle.ps_delta.specs.State.{State, IsInGrid}
use Rattle.ps_delta.specs.Deltas.{Entries, cells_of}
use Rattle.ps_delta.specs.Changes.{AreChanges}
use Rattle.ps_cells.specs.Settled.{IsSettled}
use Rattle.ps_cells.specs.Inside.Walk.{IsStateChange}
use Rattle.ps_cells.proofs.PutFormulas.{overlaid_others}

inside_of : (es : Entries) → All (λ e. e.0 < CELLS) es → (c : ℕ) → In (cells_of es) c → c < CELLS
inside_of [] all c i = absurd (let f : false ≡ true = i in cc)
inside_of (e ∷ es) all c i =
    ⊎_elim
    (λ (p : c ≡ e.0). subst (λ q. q < CELLS) (sym p) (All-head (λ (d : ℕ × CellState). d.0 < CELLS) e es all))
    (λ (later : In (cells_of es) c). inside_of es (All-tail (λ (d : ℕ × CellState). d.0 < CELLS) e es all) c later)
    (In-cases c e.0 (cells_of es) i)

module _ (s t : State) (v : Assignment) (es : Entries) (changes : AreChanges s t es) (in_grid : IsInGrid s)
    (settled : IsSettled s v) where
  pub touched_inside : (c : ℕ) → In (cells_of es) c → c < CELLS
  touched_inside = inside_of es changes.in_grid

  pub same_elsewhere : (c : ℕ) → ¬ In (cells_of es) c → s c ≡ t c
  same_elsewhere c out = sym (overlaid_others s es c out) ∙ ap (λ (x : State). x c) changes.gives

  pub change_of : IsStateChange s t v (cells_of es)
  change_of = record {
    settled = settled;
    before = in_grid;
    after = λ c out. sym (same_elsewhere c (λ i. let lt = touched_inside c i in absurd (omega (arith, lt, out))))
        ∙ in_grid c out;
    same = same_elsewhere;
  }
