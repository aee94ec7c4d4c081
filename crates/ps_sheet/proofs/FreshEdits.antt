-- A delta that an edit makes over a state is not below it.
use Rattle.std.proofs.Common.{◌≡◌, ℕ, ◌<◌, ◌≤◌, Bool, true, false, not, List, [], ◌∷◌, length, map, Result, Ok, Err}
use Rattle.std.proofs.Common.{IfOk, refl, sym, arith, subst}
use Rattle.std.specs.List.{list_any}
use Rattle.std.proofs.lemmas.Grind.{common_steps}
use Rattle.std.proofs.lemmas.List.{length-map}
use Rattle.ps_grid.specs.declared.refusal.Refusal.{Refusal}
use Rattle.ps_grid.specs.declared.refusal.Refusal.TheVariants.{NotTally, NotChoice, Amount, OptionRange, TallyFull}
use Rattle.ps_grid.specs.declared.refusal.Refusal.TheVariants.{ChoiceFull, NotChosen, ClockFull}
use Rattle.ps_lattice.specs.Tally.{is_amount}
use Rattle.ps_lattice.specs.Choice.{is_chosen}
use Rattle.ps_lattice.proofs.TallyLemmas.{add_is_fresh, sub_is_fresh}
use Rattle.ps_lattice.proofs.ChoiceLemmas.{chosen_is_fresh, withdrawn_is_fresh}
use Rattle.ps_content.specs.declared.content.Content.{Content}
use Rattle.ps_delta.specs.declared.cell_state.CellState.{CellState}
use Rattle.ps_delta.specs.State.{State, IsBelow, joined_cell}
use Rattle.ps_delta.specs.Deltas.{Entries, IsDelta, state_of}
use Rattle.ps_delta.specs.declared.edit.Edit.{Edit}
use Rattle.ps_delta.specs.declared.edit.Edit.TheVariants.{Set, SetAll, Add, Sub, Choose, Unchoose}
use Rattle.ps_sheet.specs.Edits.{assigned, delta_of_batch, is_clock_full, delta_of_edit, refused_if}
use Rattle.ps_sheet.specs.Edits.{EditsAreFresh}
use Rattle.ps_sheet.proofs.FreshCells.{new_one, new_tally, new_choice}
use Rattle.ps_sheet.proofs.BatchDeltas.{batch_new}

-- an answer that isn't refused
passed : (b : Bool) (refusal : Refusal) (answer : Result Entries Refusal) (d : Entries)
    → refused_if b refusal answer ≡ Ok d → (b ≡ false) × (answer ≡ Ok d)
passed true refusal answer d h = absurd (cc)
passed false refusal answer d h = (refl, h)

not_false : (b : Bool) → not b ≡ false → b ≡ true
not_false true h = refl
not_false false h = absurd (let x : true ≡ false = h in cc)

amount_some : (amount : ℕ) → not (is_amount amount) ≡ false → 1 ≤ amount
amount_some amount h =
    let is : is_amount amount ≡ true = not_false (is_amount amount) h in
    grind (arith, common_steps)

-- the delta of one cell that changes
one_fresh : (s : State) (c : ℕ) (x : CellState) (d : Entries)
    → ◌≡◌ {A = Result Entries Refusal} (Ok ((c, x) ∷ [])) (Ok d)
    → ¬ (joined_cell (s c) x ≡ s c) → ¬ IsBelow (state_of d) s
one_fresh s c x d made new =
    let is : (c, x) ∷ [] ≡ d = cc in
    subst (λ (e : Entries). ¬ IsBelow (state_of e) s) is (new_one s c x new)

-- the delta of a counter's step by an amount in range
stepped_fresh : (s : State) (c amount : ℕ) (other full : Bool) (x : CellState) (d : Entries)
    → (1 ≤ amount → ¬ (joined_cell (s c) x ≡ s c))
    → refused_if (not (is_amount amount)) Amount
    (refused_if other NotTally (refused_if full TallyFull (Ok ((c, x) ∷ [])))) ≡ Ok d
    → ¬ IsBelow (state_of d) s
stepped_fresh s c amount other full x d new h =
    let in_range = passed _ Amount _ d h in
    let tally = passed _ NotTally _ d in_range.1 in
    let made = passed _ TallyFull _ d tally.1 in
    one_fresh s c x d made.1 (new (amount_some amount in_range.0))

batch_fresh : (r : ℕ) (s : State) (cells : List (ℕ × Content)) (d : Entries) → IsDelta d
    → delta_of_batch r s cells ≡ Ok d → ¬ IsBelow (state_of d) s
batch_fresh r s cells d delta h =
    let make : ℕ × Content → ℕ × CellState = λ e. (e.0, assigned r (s e.0) e.1) in
    let made = passed (list_any (λ e. is_clock_full (s e.0)) cells) ClockFull (Ok (map make cells)) d h in
    let is : map make cells ≡ d = let m = made.1 in cc in
    let some : 0 < length cells =
    subst (λ n. 0 < n) (length-map cells make) (subst (λ (e : Entries). 0 < length e) (sym is) delta.some) in
    subst (λ (e : Entries). ¬ IsBelow (state_of e) s) is (batch_new r s cells some)

pub edits_are_fresh : EditsAreFresh
edits_are_fresh r s (Set c content) d delta h = batch_fresh r s ((c, content) ∷ []) d delta h
edits_are_fresh r s (SetAll cells) d delta h = batch_fresh r s cells d delta h
edits_are_fresh r s (Add c amount) d delta h =
    stepped_fresh s c amount _ _ _ d (λ t. new_tally (s c) _ (add_is_fresh (s c).tally r amount _ refl t)) h
edits_are_fresh r s (Sub c amount) d delta h =
    stepped_fresh s c amount _ _ _ d (λ t. new_tally (s c) _ (sub_is_fresh (s c).tally r amount _ refl t)) h
edits_are_fresh r s (Choose c option) d delta h =
    let in_range = passed _ OptionRange _ d h in
    let choice = passed _ NotChoice _ d in_range.1 in
    let made = passed _ ChoiceFull _ d choice.1 in
    one_fresh s c _ d made.1 (new_choice (s c) _ (chosen_is_fresh (s c).choice option r))
edits_are_fresh r s (Unchoose c option) d delta h =
    let in_range = passed _ OptionRange _ d h in
    let choice = passed _ NotChoice _ d in_range.1 in
    let chosen = passed _ NotChosen _ d choice.1 in
    one_fresh s c _ d chosen.1
    (new_choice (s c) _
    (withdrawn_is_fresh (s c).choice option (not_false (is_chosen (s c).choice option) chosen.0)))

-- the delta that the answer to an edit has is not below the state either
pub answers_are_fresh : (r : ℕ) (s t : State) (e : Edit) (answer : Result Entries Refusal) → s ≡ t
    → IfOk answer (λ d. delta_of_edit r s e ≡ Ok d) → IfOk answer IsDelta
    → IfOk answer (λ d. ¬ IsBelow (state_of d) t)
answers_are_fresh r s t e (Ok d) is made delta =
    subst (λ (u : State). ¬ IsBelow (state_of d) u) is (edits_are_fresh r s e d delta made)
answers_are_fresh r s t e (Err x) is made delta = tt
