-- A change of a sheet that is worked out, and not yet made: the sheet before the change, and after it.
use Rattle.std.specs.Prelude.{◌≡◌, ℕ, ◌↔◌, Bool, true, if◌then◌else◌, List, [], ◌∷◌, ◌++◌, length}
use Rattle.std.specs.Prelude.{Ok, Err, IsOk}
use Rattle.ps_grid.specs.declared.refusal.Refusal.{Refusal}
use Rattle.ps_value.specs.declared.value.Value.{Value}
use Rattle.ps_eval.specs.Items.{Assignment}
use Rattle.ps_shown.specs.declared.kept.Kept.{Kept}
use Rattle.ps_shown.specs.Shown.{shown_at}
use Rattle.ps_delta.specs.State.{State, IsBelow}
use Rattle.ps_delta.specs.Deltas.{Entries, state_of, joined_history}
use Rattle.ps_sheet.specs.Edits.{delta_of_edit}
use Rattle.ps_sheet.specs.Merges.{IsMergedAs}
use Rattle.ps_sheet.specs.Reports.{IsReport}
use Rattle.ps_cells.specs.ChangedCells.{put_back, IsChanges}
use Rattle.ps_cells.specs.Settled.{IsSettled}
use Rattle.ps_sheet.specs.Sheet.{SheetView, Takes}
use Rattle.ps_sheet.specs.declared.sheet.Report.{Report}
use Rattle.ps_delta.specs.declared.edit.Change.{Change}
use Rattle.ps_delta.specs.declared.edit.Change.TheVariants.{Edit, Delta, Merge}

-- The replica and the history are those of the sheet before the change. `fresh` says whether the delta is to be
-- appended. `shown` is what each cell shows after the change. `olds` lists the cells whose shown value was written,
-- with what they showed before. `changes` lists the cells that show another value, with the new value.
pub record PreparedView : Type 0 where
  pub replica : ℕ
  pub history : List Entries
  pub delta : Entries
  pub fresh : Bool
  pub shown : List Kept
  pub olds : List (ℕ × Kept)
  pub changes : List (ℕ × Value)
  pub report : Report
  pub workers : ℕ

-- what each cell shows before the change, and after it
abbrev pub shown_before : PreparedView → Assignment
shown_before p = put_back p.olds (shown_at p.shown)

abbrev pub shown_after : PreparedView → Assignment
shown_after p = shown_at p.shown

-- the history after the change
abbrev pub history_after : PreparedView → List Entries
history_after p = if p.fresh then (p.history ++ p.delta ∷ []) else p.history

-- the sheet x has the replica r and the history h, and shows the values v
pub record IsOf (x : SheetView) (r : ℕ) (h : List Entries) (v : Assignment) : Type 0 where
  pub replica : x.replica ≡ r
  pub history : x.history ≡ h
  pub shown : shown_at x.shown ≡ v

-- what holds of each prepared change
pub record IsPrepared (p : PreparedView) : Type 0 where
  pub takes : Takes p.delta p.history (history_after p)
  pub fresh : (p.fresh ≡ true) ↔ (¬ IsBelow (state_of p.delta) (joined_history p.history))
  pub before : IsSettled (joined_history p.history) (shown_before p)
  pub after : IsSettled (joined_history (history_after p)) (shown_after p)
  pub version : p.report.version ≡ length (history_after p)
  pub report : IsReport (joined_history p.history) (joined_history (history_after p)) (shown_before p) (shown_after p)
      p.report
  pub changes : IsChanges (shown_before p) (shown_after p) p.changes

-- d is the delta of a change at replica r over the state s
abbrev pub IsDeltaOf : ℕ → State → Change → Entries → Type 0
IsDeltaOf r s (Edit e) d = delta_of_edit r s e ≡ Ok d
IsDeltaOf r s (Delta a) d = d ≡ a
IsDeltaOf r s (Merge a) d = IsMergedAs s a d

-- over the state s the change is refused with e, for another reason than memory
abbrev pub IsRefusedBy : ℕ → State → Change → Refusal → Type 0
IsRefusedBy r s (Edit edit) e = delta_of_edit r s edit ≡ Err e
IsRefusedBy r s (Delta a) e = ⊥
IsRefusedBy r s (Merge a) e = ⊥

-- over the state s, the change has a delta to append
abbrev pub IsToAppend : ℕ → State → Change → Type 0
IsToAppend r s (Edit e) = IsOk (delta_of_edit r s e)
IsToAppend r s (Delta a) = ¬ IsBelow (state_of a) s
IsToAppend r s (Merge a) = ¬ IsBelow (state_of a) s
