-- What holds within a change, between the exchange of the states and the end.
use Rattle.std.proofs.Common.{◌≡◌, ◌<◌, ℕ, true, List, [], ◌∷◌, map, sym, ap, ◌∙◌, subst, refl, eqb, get_or, drop}
use Rattle.std.specs.List.{All, IsDistinct, list_all}
use Rattle.std.proofs.lemmas.List.Elements.{All-nil, All-cons, All-head, All-tail}
use Rattle.ps_grid.specs.declared.size.TheConstants.{CELLS}
use Rattle.ps_grid.specs.Chains.{In}
use Rattle.ps_value.specs.declared.value.Value.{Value}
use Rattle.ps_shown.specs.declared.kept.Kept.{Kept}
use Rattle.ps_shown.specs.Kept.{value_of as value_kept}
use Rattle.ps_shown.specs.Shown.{shown_at}
use Rattle.ps_index.specs.Stands.{Stands}
use Rattle.ps_region.specs.Listed.{listed}
use Rattle.ps_region.proofs.ListedLemmas.{listed_below, listed_refers}
use Rattle.ps_delta.specs.declared.cell_state.CellState.{CellState}
use Rattle.ps_delta.specs.State.{State, IsInGrid, joined_state, state_at}
use Rattle.ps_delta.specs.Deltas.{Entries, cells_of, overlaid}
use Rattle.ps_delta.specs.Changes.{AreChanges, entries_from}
use Rattle.ps_index.specs.declared.span.Span.{Span}
use Rattle.std.specs.List.Sorted.{IsStrictlyIncreasing}
use Rattle.ps_cells.specs.declared.tables.Tables.{Tables}
use Rattle.ps_cells.specs.Settled.{content_of, refers_to, IsSettled}
use Rattle.ps_cells.specs.Recalculated.{IsRecalculated}
use Rattle.ps_cells.specs.Inside.Alone.{is_alone, is_alone_entry}
use Rattle.ps_cells.specs.Inside.BoundedLaws.{mentions_formula}
use Rattle.ps_cells.specs.Inside.Formulas.{firsts, forms_of, shown_firsts, with_puts}
use Rattle.ps_cells.specs.Inside.Kept.{IsTidy, MayRecalculate, Recalculates}
use Rattle.ps_cells.specs.Inside.Waiting.{first_value}
use Rattle.ps_cells.specs.Inside.Walk.{IsStateChange, Lists, formula_at}
use Rattle.ps_cells.proofs.AloneEntries.{alone_cells}
use Rattle.ps_cells.proofs.Begins.{touched_inside, change_of}
use Rattle.ps_cells.proofs.ListedFormulas.{increasing_once, listed_both}
use Rattle.ps_cells.proofs.PutFormulas.{entries_hold, swapped}
use Rattle.ps_cells.proofs.SettledValues.{formula_below}

-- a list begins as another does
head_same : (A : Type 0) (x y : A) (xs ys : List A) → (x ∷ xs) ≡ (y ∷ ys) → x ≡ y
head_same A x y xs ys h = ap (λ l. get_or l 0 x) h

tail_same : (A : Type 0) (x y : A) (xs ys : List A) → (x ∷ xs) ≡ (y ∷ ys) → xs ≡ ys
tail_same A x y xs ys h = ap (λ l. drop 1 l) h

-- the first values are of the touched cells
pub first_cells : (first : List (ℕ × Kept)) (es : Entries) → shown_firsts first ≡ firsts es
    → map (λ (e : ℕ × Kept). e.0) first ≡ cells_of es
first_cells [] [] h = refl
first_cells [] (e ∷ es) h = absurd (cc)
first_cells (f ∷ first) [] h = absurd (cc)
first_cells (f ∷ first) (e ∷ es) h =
    let here : (f.0, value_kept f.1) ≡ (e.0, first_value e.1) =
    head_same (ℕ × Value) (f.0, value_kept f.1) (e.0, first_value e.1) (shown_firsts first) (firsts es) h in
    let later = first_cells first es
    (tail_same (ℕ × Value) (f.0, value_kept f.1) (e.0, first_value e.1) (shown_firsts first) (firsts es) h) in
    ap (λ (p : ℕ × Value). p.0 ∷ map (λ (q : ℕ × Kept). q.0) first) here ∙ ap (λ xs. e.0 ∷ xs) later

first_values : (t : State) (first : List (ℕ × Kept)) (es : Entries) → shown_firsts first ≡ firsts es
    → All (λ (e : ℕ × CellState). e.1 ≡ t e.0) es
    → All (λ (e : ℕ × Kept). value_kept e.1 ≡ first_value (t e.0)) first
first_values t [] es h hold = All-nil (λ (e : ℕ × Kept). value_kept e.1 ≡ first_value (t e.0))
first_values t (f ∷ first) [] h hold = absurd (cc)
first_values t (f ∷ first) (e ∷ es) h hold =
    let here : (f.0, value_kept f.1) ≡ (e.0, first_value e.1) =
    head_same (ℕ × Value) (f.0, value_kept f.1) (e.0, first_value e.1) (shown_firsts first) (firsts es) h in
    let cell : f.0 ≡ e.0 = ap (λ (p : ℕ × Value). p.0) here in
    let value : value_kept f.1 ≡ first_value e.1 = ap (λ (p : ℕ × Value). p.1) here in
    All-cons (λ (q : ℕ × Kept). value_kept q.1 ≡ first_value (t q.0)) f first
    (value ∙ (ap first_value (All-head (λ (q : ℕ × CellState). q.1 ≡ t q.0) e es hold) ∙ ap (λ c. first_value (t c))
    (sym cell)))
    (first_values t first es
    (tail_same (ℕ × Value) (f.0, value_kept f.1) (e.0, first_value e.1) (shown_firsts first) (firsts es) h)
    (All-tail (λ (q : ℕ × CellState). q.1 ≡ t q.0) e es hold))

-- and they are alone where the entries are
pub first_alone : (s t : State) (listed : ℕ → List ℕ) (es : Entries) (first : List (ℕ × Kept))
    → IsStrictlyIncreasing (cells_of es) → t ≡ overlaid s es → shown_firsts first ≡ firsts es
    → list_all (is_alone_entry listed) es ≡ true
    → list_all (is_alone (formula_at t) listed) (map (λ (e : ℕ × Kept). e.0) first) ≡ true
first_alone s t listed es first once given shows alone =
    subst (λ (q : State). list_all (is_alone (formula_at q) listed) (map (λ (e : ℕ × Kept). e.0) first) ≡ true)
    (sym given)
    (ap (list_all (is_alone (formula_at (overlaid s es)) listed)) (first_cells first es shows)
    ∙ (alone_cells (overlaid s es) listed es (entries_hold s es once) ∙ alone))

-- only cells of the grid refer to others
refer_below : (t : State) → IsInGrid t → (c d : ℕ) → refers_to t c d ≡ true → c < CELLS
refer_below t in_grid c d h = formula_below t in_grid c (mentions_formula (content_of (t c)) d h)

-- the state that an exchange leaves, b being the state before it
pub given_of : (s b t : State) (es es1 : Entries) → t ≡ overlaid b es1 → b ≡ s → es1 ≡ es → t ≡ overlaid s es
given_of s b t es es1 given same list =
    given ∙ (ap (λ (q : State). overlaid q es1) same ∙ ap (λ (xs : Entries). overlaid s xs) list)

-- no cell outside the grid holds anything after a change
pub after_in_grid : (s d : State) (v : ℕ → Value) (es : Entries) → IsInGrid s → IsSettled s v
    → AreChanges s (joined_state s d) es → IsInGrid (overlaid s es)
after_in_grid s d v es in_grid settled joins =
    subst IsInGrid (sym joins.gives) (change_of s (joined_state s d) v es joins in_grid settled).after

-- the index has the old formulas beside the new ones
pub old_formulas_of : (s b : State) (es es1 back : Entries) (i j : List (List Span)) → back ≡ entries_from b es1 → b ≡ s
    → es1 ≡ es → j ≡ i → IsStrictlyIncreasing (cells_of es) → Stands i (with_puts es (forms_of s))
    → Stands j (with_puts back (forms_of (overlaid s es)))
old_formulas_of s b es es1 back i j taken same list index once stands =
    let here : back ≡ entries_from s es =
    taken ∙ (ap (λ (q : State). entries_from q es1) same ∙ ap (λ (xs : Entries). entries_from s xs) list) in
    subst (λ (k : List (List Span)). Stands k (with_puts back (forms_of (overlaid s es)))) (sym index)
    (subst (λ (xs : Entries). Stands i (with_puts xs (forms_of (overlaid s es)))) (sym here)
    (swapped s es i once stands))

-- after the exchange of the states a recalculation may begin
pub may_recalculate : (s d : State) (es : Entries) (x : Tables) (touched : List ℕ) (first : List (ℕ × Kept))
    → IsInGrid s → IsSettled s (shown_at x.shown.kept) → IsTidy s x → Stands x.index (with_puts es (forms_of s))
    → AreChanges s (joined_state s d) es → state_at x.grid ≡ overlaid s es → touched ≡ cells_of es
    → shown_firsts first ≡ firsts es → MayRecalculate x touched first
may_recalculate s d es x touched first in_grid settled tidy stands joins given cells shows =
    let t = state_at x.grid in
    let changes : AreChanges s t es = subst (λ (q : State). AreChanges s q es) (sym (given ∙ joins.gives)) joins in
    let change : IsStateChange s t (shown_at x.shown.kept) (cells_of es) =
    change_of s t (shown_at x.shown.kept) es changes in_grid settled in
    let both : (p : ℕ) → p < CELLS → Lists (refers_to (overlaid s es)) (cells_of es) p (listed x.index p) =
    listed_both s es (listed x.index)
    (λ p q h. refer_below t change.after p q (ap (λ (r : State). refers_to r p q) given ∙ h))
    (λ p q i. listed_below x.index q p i)
    (λ p q p_lt q_lt. listed_refers x.index (with_puts es (forms_of s)) stands p q p_lt q_lt) in
    record {
      before = s;
      change = subst (λ (ts : List ℕ). IsStateChange s t (shown_at x.shown.kept) ts) (sym cells) change;
      tidy = tidy;
      once = subst (λ (ts : List ℕ). IsDistinct eqb ts) (sym cells) (increasing_once (cells_of es) joins.ascending);
      inside = λ c i. touched_inside s t (shown_at x.shown.kept) es changes in_grid settled c
          (subst (λ (ts : List ℕ). In ts c) cells i);
      lists = λ p lt.
          subst (λ (r : State). Lists (refers_to r) touched p (listed x.index p)) (sym given)
          (subst (λ (ts : List ℕ). Lists (refers_to (overlaid s es)) ts p (listed x.index p)) (sym cells) (both p lt));
      cells = first_cells first es shows ∙ sym cells;
      values = subst (λ (r : State). All (λ (e : ℕ × Kept). value_kept e.1 ≡ first_value (r e.0)) first) (sym given)
          (first_values (overlaid s es) first es shows (entries_hold s es joins.ascending));
    }

-- what a recalculation did is what the change recalculates
pub recalculated : (s d : State) (es : Entries) (x y : Tables) (touched : List ℕ) (evaluated cyclic levels : ℕ)
    → AreChanges s (joined_state s d) es → state_at x.grid ≡ overlaid s es → touched ≡ cells_of es
    → Recalculates x y touched evaluated cyclic levels
    → IsRecalculated s (state_at y.grid) (shown_at x.shown.kept) (shown_at y.shown.kept) evaluated cyclic levels
recalculated s d es x y touched evaluated cyclic levels joins given cells did =
    let t = state_at x.grid in
    let changes : AreChanges s t es = subst (λ (q : State). AreChanges s q es) (sym (given ∙ joins.gives)) joins in
    subst (λ g. IsRecalculated s (state_at g) (shown_at x.shown.kept) (shown_at y.shown.kept) evaluated cyclic levels)
    (sym did.grid)
    (record {
      touched = touched;
      exact = λ c. (
        (λ i e. (changes.exact c).0 (subst (λ (ts : List ℕ). In ts c) cells i) (sym e)),
        (λ ne. subst (λ (ts : List ℕ). In ts c) (sym cells) ((changes.exact c).1 (λ e. ne (sym e)))),
      );
      works = did.works;
      closes = did.closes;
      deepest = did.deepest;
      reached = did.reached;
    })
