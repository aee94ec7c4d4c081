-- Cells in which nothing is staged are whole, and a staged change can be taken back.
use Rattle.std.proofs.Common.{◌≡◌, Bool, true, false, None, refl, ap, ◌∙◌, subst}
use Rattle.std.specs.Prelude.{is_some}
use Rattle.ps_delta.specs.State.{State, state_at}
use Rattle.ps_delta.specs.Deltas.{Entries, overlaid}
use Rattle.ps_cells.specs.Cells.{CellsView, state_before, state_without}
use Rattle.ps_cells.specs.Inside.Views.{view_of, staged_by, AreCells, AreCellsBy}
use Rattle.ps_cells.specs.Inside.Kept.{IsWhole}
use Rattle.ps_cells.specs.Inside.Pending.{IsPending}
use Rattle.ps_cells.specs.declared.cells.Cells.TheInside.{Inside}
use Rattle.ps_cells.specs.declared.tables.Tables.{Tables}

pub unstaged_is_whole : (x : Inside) (v : CellsView) → view_of x ≡ v → v.staged ≡ None → AreCells x → IsWhole x.tables
unstaged_is_whole x v is none held = subst (AreCellsBy x.tables) (ap (λ (y : CellsView). y.staged) is ∙ none) held

pending_by : (t : Tables) (is_staged : Bool) (olds : Entries) → is_some (staged_by is_staged olds) ≡ true
    → AreCellsBy t (staged_by is_staged olds) → IsPending (overlaid (state_at t.grid) olds) t olds
pending_by t true olds there held = held
pending_by t false olds there held = absurd (let f : false ≡ true = there in cc)

-- the states that are kept are those that can be taken back
pub staged_is_pending : (x : Inside) (v : CellsView) → view_of x ≡ v → is_some v.staged ≡ true → AreCells x
    → IsPending (overlaid (state_at x.tables.grid) x.lists.states.items) x.tables x.lists.states.items
staged_is_pending x v is there held =
    pending_by x.tables x.is_staged x.lists.states.items (ap (λ (y : CellsView). is_some y.staged) is ∙ there) held

before_by : (s : State) (is_staged : Bool) (olds : Entries) → is_some (staged_by is_staged olds) ≡ true
    → overlaid s olds ≡ state_without s (staged_by is_staged olds)
before_by s true olds there = refl
before_by s false olds there = absurd (let f : false ≡ true = there in cc)

-- and make the state before
pub staged_before : (x : Inside) (v : CellsView) → view_of x ≡ v → is_some v.staged ≡ true
    → overlaid (state_at x.tables.grid) x.lists.states.items ≡ state_before v
staged_before x v is there =
    before_by (state_at x.tables.grid) x.is_staged x.lists.states.items
    (ap (λ (y : CellsView). is_some y.staged) is ∙ there)
    ∙ ap state_before is
