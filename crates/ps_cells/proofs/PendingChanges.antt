-- A change that is made and can be taken back.
use Rattle.std.proofs.Common.{◌≡◌, ℕ, List, [], ◌∷◌, refl, sym, ap, ◌∙◌, ⊎_elim, subst}
use Rattle.std.specs.List.{All}
use Rattle.std.specs.List.Sorted.{IsStrictlyIncreasing}
use Rattle.std.proofs.Math.Path.{fun_ext}
use Rattle.std.proofs.lemmas.List.Elements.{All-head, All-tail}
use Rattle.ps_grid.specs.Chains.{In}
use Rattle.ps_grid.proofs.ChainLemmas.{In-decided}
use Rattle.ps_index.specs.Stands.{Stands}
use Rattle.ps_index.specs.declared.span.Span.{Span}
use Rattle.ps_eval.specs.Items.{Assignment}
use Rattle.ps_shown.specs.Shown.{shown_at}
use Rattle.ps_delta.specs.State.{Blocks, State, IsInGrid, joined_state, state_at}
use Rattle.ps_delta.specs.Deltas.{Entries, cells_of, overlaid}
use Rattle.ps_delta.specs.Changes.{AreChanges, HasRoomFor, entries_from}
use Rattle.ps_delta.specs.declared.cell_state.CellState.{CellState}
use Rattle.ps_cells.specs.Settled.{IsSettled}
use Rattle.ps_cells.specs.Inside.Formulas.{forms_of, with_puts}
use Rattle.ps_cells.specs.Inside.Kept.{IsTidy, Recalculates}
use Rattle.ps_cells.specs.Inside.Pending.{IsPending}
use Rattle.ps_cells.specs.Inside.Screens.{ScreenView, before_of}
use Rattle.ps_cells.specs.declared.tables.Tables.{Tables}
use Rattle.ps_cells.proofs.PutFormulas.{cells_of-from, entries_hold, overlaid_from, overlaid_others, swapped}

-- the states that were exchanged, put back, make the state before
pub overlaid_back : (s : State) (es : Entries) → overlaid (overlaid s es) (entries_from s es) ≡ s
overlaid_back s es =
    fun_ext (λ c. ⊎_elim
    (λ i. overlaid_from s (overlaid s es) es c i)
    (λ out. overlaid_others (overlaid s es) (entries_from s es) c
    (λ j. out (subst (λ cs. In cs c) (cells_of-from s es) j))
    ∙ overlaid_others s es c out)
    (In-decided (cells_of es) c))

-- and what is exchanged for them are the new ones
pub entries_again : (s t : State) (es : Entries) → All (λ e. e.1 ≡ t e.0) es → entries_from t (entries_from s es) ≡ es
entries_again s t [] hold = refl
entries_again s t (e ∷ es) hold =
    ap (λ (x : CellState). (e.0, x) ∷ entries_from t (entries_from s es))
    (sym (All-head (λ (q : ℕ × CellState). q.1 ≡ t q.0) e es hold))
    ∙ ap (λ (xs : Entries). e ∷ xs)
    (entries_again s t es (All-tail (λ (q : ℕ × CellState). q.1 ≡ t q.0) e es hold))

-- after the states were exchanged back the index has the new formulas beside the old ones
pub new_formulas_of : (s t : State) (index : List (List Span)) (olds taken : Entries) → taken ≡ entries_from t olds
    → Stands index (with_puts (entries_from t olds) (forms_of s)) → Stands index (with_puts taken (forms_of s))
new_formulas_of s t index olds taken taken_is stood =
    subst (λ (xs : Entries). Stands index (with_puts xs (forms_of s))) (sym taken_is) stood

-- after a recalculation the change is pending
pub pending_of : (s d : State) (v : Assignment) (es olds : Entries) (x y : Tables) (touched : List ℕ)
    (evaluated closed levels : ℕ) → IsInGrid s → IsSettled s v → before_of y.shown ≡ v
    → AreChanges s (joined_state s d) es → state_at x.grid ≡ overlaid s es → olds ≡ entries_from s es
    → HasRoomFor x.grid olds → Stands x.index (with_puts es (forms_of s)) → IsInGrid (overlaid s es)
    → Recalculates x y touched evaluated closed levels → IsPending s y olds
pending_of s d v es olds x y touched evaluated closed levels in_grid settled before joins given taken ready stands
    after did =
    let t : State = overlaid s es in
    let now : state_at y.grid ≡ t = ap state_at did.grid ∙ given in
    let beside : Stands y.index (with_puts olds (forms_of t)) =
    subst (λ (xs : Entries). Stands y.index (with_puts xs (forms_of t))) (sym taken)
    (subst (λ (i : List (List Span)). Stands i (with_puts (entries_from s es) (forms_of t))) (sym did.index)
    (swapped s es x.index joins.ascending stands)) in
    let back : entries_from t olds ≡ es =
    ap (entries_from t) taken ∙ entries_again s t es (entries_hold s es joins.ascending) in
    record {
      was_in_grid = in_grid;
      was_settled = subst (IsSettled s) (sym before) settled;
      gives = subst (λ (q : State). overlaid q olds ≡ s) (sym now)
          (ap (overlaid t) taken ∙ overlaid_back s es);
      ready = subst (λ (b : Blocks). HasRoomFor b olds) (sym did.grid) ready;
      ascending = subst IsStrictlyIncreasing (sym (ap cells_of taken ∙ cells_of-from s es)) joins.ascending;
      stood = subst (λ (q : State). Stands y.index (with_puts (entries_from q olds) (forms_of s))) (sym now)
          (subst (λ (xs : Entries). Stands y.index (with_puts xs (forms_of s))) (sym back)
          (subst (λ (i : List (List Span)). Stands i (with_puts es (forms_of s))) (sym did.index) stands));
      in_grid = subst IsInGrid (sym now) after;
      settled = subst (λ (q : State). IsSettled q (shown_at y.shown.kept)) (sym (ap state_at did.grid)) did.settled;
      stands = subst (λ (q : State). Stands y.index (with_puts olds (forms_of q))) (sym now) beside;
      tidy = subst (λ (q : State). IsTidy q y) (sym (ap state_at did.grid)) did.tidy;
    }

-- tidy is what it is with another grid, index and screen too
pub tidy_with : (s : State) (x : Tables) (grid : Blocks) (index : List (List Span)) (shown : ScreenView)
    → IsTidy s x → IsTidy s (record x { grid = grid; index = index; shown = shown })
tidy_with s x grid index shown tidy = record {
  cyclic = tidy.cyclic;
  length = tidy.length;
  off = tidy.off;
  level = tidy.level;
  workers = tidy.workers;
  region = tidy.region;
}
