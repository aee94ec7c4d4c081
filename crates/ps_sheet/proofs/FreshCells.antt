-- A cell of an edit's delta changes the cell of the state that the delta was made over, and so isn't empty.
use Rattle.std.proofs.Common.{◌≡◌, ◌≢◌, ℕ, [], ◌∷◌, Option, refl, sym, ap, ◌∙◌}
use Rattle.std.specs.FinMap as map
use Rattle.ps_lattice.specs.declared.register.Assignment.{Assignment}
use Rattle.ps_lattice.specs.Register.{joined_registers}
use Rattle.ps_lattice.specs.Tally.{Counts, joined_tallies}
use Rattle.ps_lattice.specs.Choice.{Pairs, joined_choices}
use Rattle.ps_content.specs.declared.content.Content.{Content}
use Rattle.ps_content.specs.Order.{content_cmp}
use Rattle.ps_delta.specs.declared.cell_state.CellState.{CellState}
use Rattle.ps_delta.specs.State.{State, IsBelow, empty_cell, joined_cell}
use Rattle.ps_delta.specs.Deltas.{Entries, state_of}
use Rattle.ps_delta.specs.CellLaws.{joined_cell-empty_right, joined_cell-register, joined_cell-tally}
use Rattle.ps_delta.specs.CellLaws.{joined_cell-choice}
use Rattle.ps_delta.proofs.StateLemmas.{joined_state-at}
use Rattle.ps_delta.proofs.EntryLemmas.{state_of-here}
use Rattle.ps_sheet.specs.Edits.{registered, counted, paired}

-- a delta that changes a cell of a state is not below that state
pub new_at : (s : State) (d : Entries) (c : ℕ) (x : CellState) → state_of d c ≡ x → ¬ (joined_cell (s c) x ≡ s c)
    → ¬ IsBelow (state_of d) s
new_at s d c x is new below =
    new (ap (joined_cell (s c)) (sym is) ∙ (sym (joined_state-at s (state_of d) c) ∙ ap (λ (t : State). t c) below))

pub new_one : (s : State) (c : ℕ) (x : CellState) → ¬ (joined_cell (s c) x ≡ s c)
    → ¬ IsBelow (state_of ((c, x) ∷ [])) s
new_one s c x new = new_at s ((c, x) ∷ []) c x (state_of-here (c, x) [] c refl) new

-- a part that changes makes the cell change
pub new_register : (y : CellState) (r : Option (Assignment Content))
    → ¬ (joined_registers content_cmp y.register r ≡ y.register)
    → ¬ (joined_cell y (registered r) ≡ y)
new_register y r new e = new (sym (joined_cell-register y (registered r)) ∙ ap (λ (x : CellState). x.register) e)

pub new_tally : (y : CellState) (t : Counts) → ¬ (joined_tallies y.tally t ≡ y.tally)
    → ¬ (joined_cell y (counted t) ≡ y)
new_tally y t new e = new (sym (joined_cell-tally y (counted t)) ∙ ap (λ (x : CellState). x.tally) e)

pub new_choice : (y : CellState) (p : Pairs) → ¬ (joined_choices y.choice p ≡ y.choice)
    → ¬ (joined_cell y (paired p) ≡ y)
new_choice y p new e = new (sym (joined_cell-choice y (paired p)) ∙ ap (λ (x : CellState). x.choice) e)

-- nothing changes no cell
pub none_new : (y x : CellState) → ¬ (joined_cell y x ≡ y) → x ≢ empty_cell
none_new y x new is = new (ap (joined_cell y) is ∙ joined_cell-empty_right y)

-- so a cell of such a part isn't empty
pub registered_some : (y x : CellState) (r : Option (Assignment Content))
    → ¬ (joined_registers content_cmp y.register r ≡ y.register) → x ≡ registered r → x ≢ empty_cell
registered_some y x r new made is = none_new y (registered r) (new_register y r new) (sym made ∙ is)

pub counted_some : (y x : CellState) (t : Counts) → ¬ (joined_tallies y.tally t ≡ y.tally) → x ≡ counted t
    → x ≢ empty_cell
counted_some y x t new made is = none_new y (counted t) (new_tally y t new) (sym made ∙ is)

pub paired_some : (y x : CellState) (p : Pairs) → ¬ (joined_choices y.choice p ≡ y.choice) → x ≡ paired p
    → x ≢ empty_cell
paired_some y x p new made is = none_new y (paired p) (new_choice y p new) (sym made ∙ is)

-- so no part of an edit is empty
counted_none : counted map.empty ≡ empty_cell
unfolding empty_cell
counted_none = refl

paired_none : paired map.empty ≡ empty_cell
unfolding empty_cell
paired_none = refl

pub some_tally : (y : CellState) (t : Counts) → ¬ (joined_tallies y.tally t ≡ y.tally) → t ≢ map.empty
some_tally y t new is = none_new y (counted t) (new_tally y t new) (ap counted is ∙ counted_none)

pub some_choice : (y : CellState) (p : Pairs) → ¬ (joined_choices y.choice p ≡ y.choice) → p ≢ map.empty
some_choice y p new is = none_new y (paired p) (new_choice y p new) (ap paired is ∙ paired_none)

-- a cell state with a part that isn't empty isn't empty
pub tally_not_empty : (x : CellState) → x.tally ≢ map.empty → x ≢ empty_cell
unfolding empty_cell
tally_not_empty x some is = some (ap (λ (z : CellState). z.tally) is)

pub choice_not_empty : (x : CellState) → x.choice ≢ map.empty → x ≢ empty_cell
unfolding empty_cell
choice_not_empty x some is = some (ap (λ (z : CellState). z.choice) is)
