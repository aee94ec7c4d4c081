-- The invariant of a sheet, with nothing staged in it and with a staged change.
use Rattle.std.proofs.Common.{◌≡◌, Option, Some, None}
use Rattle.std.proofs.Common.{ap, ◌∙◌, subst}
use Rattle.std.specs.Prelude.{IsSomeAnd}
use Rattle.ps_delta.specs.State.{state_at}
use Rattle.ps_delta.specs.Deltas.{joined_history}
use Rattle.ps_cells.specs.Cells.{CellsView, state_before, state_now, state_without}
use Rattle.ps_sheet.specs.Sheet.{IsSheet}
use Rattle.ps_sheet.specs.Staging.{IsStagedAs, StagingView, sheet_of}
use Rattle.ps_sheet.specs.Inside.Kept.{IsKept, IsStagedBy, staged_of, view_of}
use Rattle.ps_sheet.specs.declared.staging.Staging.TheInside.{Inside}

module _ (x : Inside) (v : StagingView) (is : view_of x ≡ v) (none : v.staged ≡ None) (kept : IsKept x) where
  none_of : staged_of x.cells x.staged ≡ None
  none_of = ap (λ (y : StagingView). y.staged) is ∙ none

  pub idle_holds : (state_now x.cells ≡ joined_history (view_of x).history) × (x.cells.staged ≡ None)
  idle_holds = subst (IsStagedBy (view_of x) x.cells) none_of kept.holds

  pub idle_state : state_now x.cells ≡ joined_history v.history
  idle_state = idle_holds.0 ∙ ap (λ (y : StagingView). joined_history y.history) is

  pub idle_sheet : IsSheet (sheet_of (view_of x))
  idle_sheet = subst (IsStagedAs (view_of x)) none_of kept.staging

-- cells in which nothing is staged hold what they held
pub idle_before : (x : CellsView) → x.staged ≡ None → state_before x ≡ state_now x
idle_before x none = ap (state_without (state_at x.grid)) none

-- what holds of the value of an option, and what follows from it
pub of_some : {A : Type 0} (P Q : A → Type 0) (o : Option A) → ((p : A) → P p → Q p) → IsSomeAnd o P → IsSomeAnd o Q
of_some P Q None f h = absurd h
of_some P Q (Some p) f h = f p h

pub both_some : {A : Type 0} (P Q R : A → Type 0) (o : Option A) → ((p : A) → P p → Q p → R p) → IsSomeAnd o P
    → IsSomeAnd o Q → IsSomeAnd o R
both_some P Q R None f h k = absurd h
both_some P Q R (Some p) f h k = f p h k
