-- Deltas that follow the history of a sheet, and are accepted together.
use Rattle.std.specs.Prelude.{◌≡◌, ℕ, Bool, true, false, List, [], ◌∷◌, ◌++◌}
use Rattle.std.specs.Result.{IsOkAnd}
use Rattle.ps_delta.specs.State.{Blocks, IsBelow, state_at}
use Rattle.ps_delta.specs.Deltas.{Entries, state_of, joined_history}
use Rattle.ps_delta.specs.declared.edit.Edit.{Edit}
use Rattle.ps_sheet.specs.Edits.{delta_of_edit}
use Rattle.ps_sheet.specs.Sheet.{IsFresh}

-- the deltas, and a grid that holds the join of the history and of them
pub record ArrivalsView : Type 0 where
  pub deltas : List Entries
  pub grid : Blocks

-- FOLLOW: no delta of a is below the join of the history h and of the deltas before it, and the grid of a holds the
-- join of h and of all of them
pub record Follow (h : List Entries) (a : ArrivalsView) : Type 0 where
  pub fresh : IsFresh (h ++ a.deltas)
  pub joined : state_at a.grid ≡ joined_history (h ++ a.deltas)

-- TAKEN IN: the arrivals x, which follow the history h, became y when the delta d came. On true, d isn't below the join
-- of h and x, and y is x with d at the end. On false, d is below that join, and nothing changed
abbrev pub IsTakenIn : List Entries → ArrivalsView → ArrivalsView → Entries → Bool → Type 0
IsTakenIn h x y d true =
    (¬ IsBelow (state_of d) (joined_history (h ++ x.deltas))) × (y.deltas ≡ x.deltas ++ d ∷ [])
IsTakenIn h x y d false = IsBelow (state_of d) (joined_history (h ++ x.deltas)) × (y ≡ x)

-- MADE: the arrivals x, which follow the history h, became y: the delta of an edit at replica r was added at the end
abbrev pub IsMade : ℕ → List Entries → ArrivalsView → Edit → ArrivalsView → Type 0
IsMade r h x edit y =
    IsOkAnd (delta_of_edit r (joined_history (h ++ x.deltas)) edit) (λ d. y.deltas ≡ x.deltas ++ d ∷ [])
