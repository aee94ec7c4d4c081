-- What an empty sheet holds after records were assigned to it.
use Rattle.std.proofs.Common.{◌≡◌, ◌+◌, ◌<◌, ◌≤◌, ◌∷◌, ◌++◌, ◌∙◌, [], ℕ, zero, suc, List, map, length}
use Rattle.std.proofs.Common.{refl, ap, sym, subst, arith, get_or, Ok}
use Rattle.std.specs.List.{list_any}
use Rattle.ps_grid.specs.declared.size.TheConstants.{COLUMNS}
use Rattle.ps_grid.specs.declared.refusal.Refusal.TheVariants.{ClockFull}
use Rattle.ps_content.specs.Content.{IsContent, canonical_text}
use Rattle.ps_content.specs.declared.content.Content.{Content}
use Rattle.ps_content.proofs.CanonicalLemmas.{reads_back}
use Rattle.ps_cells.specs.Settled.{content_of}
use Rattle.ps_delta.specs.declared.cell_state.CellState.{CellState}
use Rattle.ps_delta.specs.State.{State, empty_cell, joined_cell}
use Rattle.ps_delta.specs.CellLaws.{joined_cell-empty, joined_cell-empty_right}
use Rattle.ps_delta.specs.Deltas.{Entries, cells_of, joined_history, state_of}
use Rattle.ps_delta.specs.Order.{Rising}
use Rattle.ps_delta.proofs.EntryLemmas.{state_of-here, state_of-rising, state_of-there, state_of-under}
use Rattle.ps_delta.proofs.HistoryLemmas.{joined_history-push}
use Rattle.ps_delta.proofs.StateLemmas.{joined_state-at}
use Rattle.ps_sheet.specs.Edits.{assigned, is_clock_full}
use Rattle.ps_csv.specs.Imports.{Assigned}
use Rattle.ps_csv.specs.Records.{Cells, FieldSays, FieldsSay, Record, RecordsSay, place}
use Rattle.ps_csv.proofs.ApplyLemmas.{not_refused, under_batch}
use Rattle.ps_csv.proofs.RecordLemmas.{fields_say-rising, fields_say-under}

-- the delta of a batch at replica r over the state s
abbrev pub delta_of_cells : ℕ → State → Cells → Entries
delta_of_cells r s cells = map (λ e. (e.0, assigned r (s e.0) e.1)) cells

rising_batch : (r : ℕ) (s : State) (n : ℕ) (cells : Cells) → Rising n (map (λ e. e.0) cells)
    → Rising n (cells_of (delta_of_cells r s cells))
rising_batch r s n [] rising = tt
rising_batch r s n (c ∷ cs) rising = (rising.0, rising_batch r s (c.0 + 1) cs rising.1)

nothing_held : canonical_text (content_of empty_cell) ≡ []
unfolding empty_cell
nothing_held = refl

-- no field stands past the last column
fields_column : (s : State) (n j : ℕ) (fields : Record) (cells : Cells) → FieldsSay s n j fields cells
    → (i : ℕ) → i < length fields → j + i < COLUMNS
unfolding FieldsSay
fields_column s n j [] cells said i lt = absurd (omega (arith, lt))
fields_column s n j (f ∷ fields) cells said zero lt = omega (arith, said.2)
fields_column s n j (f ∷ fields) cells said (suc i) lt =
    let later = fields_column s n (j + 1) fields said.1 said.4 i (omega (arith, lt)) in
    omega (arith, later)

-- in the delta of a record, the entry of a cell is the cell's field, if that is a canonical text
fields_hold : (r : ℕ) (s t : State) (n j : ℕ) (fields : Record) (cells : Cells) → FieldsSay s n j fields cells
    → (i : ℕ) → i < length fields → (x : Content) → IsContent x → get_or fields i [] ≡ canonical_text x
    → canonical_text (content_of (state_of (delta_of_cells r t cells) (place n (j + i)))) ≡ get_or fields i []
unfolding FieldsSay FieldSays
fields_hold r s t n j [] cells said i lt x is text = absurd (omega (arith, lt))
fields_hold r s t n j ([] ∷ fields) cells said zero lt x is text =
    let same : cells ≡ said.1 = said.5 ∙ ap (λ (xs : Cells). xs ++ said.1) said.3 in
    let rising = fields_say-rising s n (j + 1) fields said.1 said.4 in
    let there : j + 0 ≡ j = omega arith in
    let none : state_of (delta_of_cells r t said.1) (place n j) ≡ empty_cell =
    state_of-rising (place n (j + 1)) (delta_of_cells r t said.1) (place n j)
    (rising_batch r t (place n (j + 1)) said.1 rising) (omega arith) in
    rw (same, there, none) nothing_held
fields_hold r s t n j ([] ∷ fields) cells said (suc i) lt x is text =
    let same : cells ≡ said.1 = said.5 ∙ ap (λ (xs : Cells). xs ++ said.1) said.3 in
    let there : j + suc i ≡ (j + 1) + i = omega arith in
    rw (same, there) (fields_hold r s t n (j + 1) fields said.1 said.4 i (omega (arith, lt)) x is text)
fields_hold r s t n j ((b ∷ bs) ∷ fields) cells said zero lt x is text =
    let same : cells ≡ (place n j, said.3.0) ∷ said.1 = said.5 ∙ ap (λ (xs : Cells). xs ++ said.1) said.3.3 in
    let there : j + 0 ≡ j = omega arith in
    let first : ℕ × CellState = (place n j, assigned r (t (place n j)) said.3.0) in
    let here : state_of (first ∷ delta_of_cells r t said.1) (place n j) ≡ first.1 =
    state_of-here first (delta_of_cells r t said.1) (place n j) refl in
    let back : said.3.0 ≡ x = reads_back x (b ∷ bs) (Ok said.3.0) is text said.3.1 in
    rw (same, there, here) (ap canonical_text back ∙ sym text)
fields_hold r s t n j ((b ∷ bs) ∷ fields) cells said (suc i) lt x is text =
    let same : cells ≡ (place n j, said.3.0) ∷ said.1 = said.5 ∙ ap (λ (xs : Cells). xs ++ said.1) said.3.3 in
    let there : j + suc i ≡ (j + 1) + i = omega arith in
    let first : ℕ × CellState = (place n j, assigned r (t (place n j)) said.3.0) in
    let past : state_of (first ∷ delta_of_cells r t said.1) (place n ((j + 1) + i))
    ≡ state_of (delta_of_cells r t said.1) (place n ((j + 1) + i)) =
    state_of-there first (delta_of_cells r t said.1) (place n ((j + 1) + i)) (λ p. omega (arith, p)) in
    rw (same, there, past) (fields_hold r s t n (j + 1) fields said.1 said.4 i (omega (arith, lt)) x is text)

-- the first record, and those after it
record IsSplit (r : ℕ) (h : List Entries) (cells : Cells) (batches : List Cells) (k : List Entries) : Type 0 where
  middle : List Entries
  joined : (c : ℕ) → joined_history middle c
      ≡ joined_cell (joined_history h c) (state_of (delta_of_cells r (joined_history h) cells) c)
  rest : Assigned r middle batches k

split : (r : ℕ) (h : List Entries) (cells : Cells) (batches : List Cells) (k : List Entries)
    → Assigned r h (cells ∷ batches) k → IsSplit r h cells batches k
unfolding Assigned
split r h [] batches k done = record {
  middle = h;
  joined = λ c. sym (ap (joined_cell (joined_history h c)) (state_of-rising (suc c) [] c tt (omega arith))
      ∙ joined_cell-empty_right (joined_history h c));
  rest = done;
}
split r h (e ∷ es) batches k done =
    let delta = delta_of_cells r (joined_history h) (e ∷ es) in
    let is : delta ≡ done.0 = not_refused (list_any (λ x. is_clock_full (joined_history h x.0)) (e ∷ es))
    ClockFull done.0 delta done.1 in
    record {
      middle = h ++ done.0 ∷ [];
      joined = λ c. ap (λ (s : State). s c) (joined_history-push h done.0)
          ∙ joined_state-at (joined_history h) (state_of done.0) c
          ∙ ap (λ (d : Entries). joined_cell (joined_history h c) (state_of d c)) (sym is);
      rest = done.2;
    }

nothing_done : (r : ℕ) (h k : List Entries) (batches : List Cells) → batches ≡ [] → Assigned r h batches k → k ≡ h
unfolding Assigned
nothing_done r h k [] none done = done
nothing_done r h k (x ∷ xs) none done = cc none

-- records from the n-th on don't change the rows above
above_stays : (r : ℕ) (s : State) (n : ℕ) (table : List Record) (batches : List Cells) (h k : List Entries)
    → RecordsSay s n table batches → Assigned r h batches k
    → (c : ℕ) → c < place n 0 → joined_history k c ≡ joined_history h c
unfolding RecordsSay
above_stays r s n [] batches h k said done c lt =
    let none : k ≡ h = nothing_done r h k batches said done in
    ap (λ (g : List Entries). joined_history g c) none
above_stays r s n (fields ∷ table) batches h k said done c lt =
    let all = subst (λ (bs : List Cells). Assigned r h bs k) said.5 done in
    let parts = split r h said.0 said.1 k all in
    let rising = fields_say-rising s n 0 fields said.0 said.3 in
    let none : state_of (delta_of_cells r (joined_history h) said.0) c ≡ empty_cell =
    state_of-rising (place n 0) (delta_of_cells r (joined_history h) said.0) c
    (rising_batch r (joined_history h) (place n 0) said.0 rising) lt in
    above_stays r s (n + 1) table said.1 parts.middle k said.4 parts.rest c (omega (arith, lt))
    ∙ parts.joined c ∙ ap (joined_cell (joined_history h c)) none ∙ joined_cell-empty_right (joined_history h c)

-- the entries of the cells after records were assigned, if nothing was assigned before
pub records_hold : (r : ℕ) (s : State) (n : ℕ) (table : List Record) (batches : List Cells) (h k : List Entries)
    → RecordsSay s n table batches → Assigned r h batches k
    → ((c : ℕ) → place n 0 ≤ c → joined_history h c ≡ empty_cell)
    → (q i : ℕ) → q < length table → i < length (get_or table q []) → (x : Content) → IsContent x
    → get_or (get_or table q []) i [] ≡ canonical_text x
    → canonical_text (content_of (joined_history k (place (n + q) i))) ≡ get_or (get_or table q []) i []
unfolding RecordsSay
records_hold r s n [] batches h k said done fresh q i below lt x is text = absurd (omega (arith, below))
records_hold r s n (fields ∷ table) batches h k said done fresh zero i below lt x is text =
    let all = subst (λ (bs : List Cells). Assigned r h bs k) said.5 done in
    let parts = split r h said.0 said.1 k all in
    let column = fields_column s n 0 fields said.0 said.3 i lt in
    let there : n + 0 ≡ n = omega arith in
    let stays = above_stays r s (n + 1) table said.1 parts.middle k said.4 parts.rest (place n i)
    (omega (arith, column)) in
    let alone : joined_history k (place n i) ≡ state_of (delta_of_cells r (joined_history h) said.0) (place n i) =
    stays ∙ parts.joined (place n i)
    ∙ ap (λ (y : CellState). joined_cell y (state_of (delta_of_cells r (joined_history h) said.0) (place n i)))
    (fresh (place n i) (omega arith))
    ∙ joined_cell-empty (state_of (delta_of_cells r (joined_history h) said.0) (place n i)) in
    let at : 0 + i ≡ i = omega arith in
    let first = subst
    (λ m. canonical_text (content_of (state_of (delta_of_cells r (joined_history h) said.0) (place n m)))
    ≡ get_or fields i []) at (fields_hold r s (joined_history h) n 0 fields said.0 said.3 i lt x is text) in
    rw (there, alone) first
records_hold r s n (fields ∷ table) batches h k said done fresh (suc q) i below lt x is text =
    let all = subst (λ (bs : List Cells). Assigned r h bs k) said.5 done in
    let parts = split r h said.0 said.1 k all in
    let under = fields_say-under s n 0 fields said.0 said.3 in
    let there : n + suc q ≡ (n + 1) + q = omega arith in
    let none : (c : ℕ) → place (n + 1) 0 ≤ c → joined_history parts.middle c ≡ empty_cell =
    λ c le. parts.joined c
    ∙ ap (λ (y : CellState). joined_cell y (state_of (delta_of_cells r (joined_history h) said.0) c))
    (fresh c (omega (arith, le)))
    ∙ joined_cell-empty (state_of (delta_of_cells r (joined_history h) said.0) c)
    ∙ state_of-under (place (n + 1) 0) (delta_of_cells r (joined_history h) said.0) c
    (under_batch r (joined_history h) (place (n + 1) 0) said.0 under) le in
    rw there
    (records_hold r s (n + 1) table said.1 parts.middle k said.4 parts.rest none q i (omega (arith, below)) lt x is
    text)
