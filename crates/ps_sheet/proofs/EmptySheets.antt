-- The empty sheet.
use Rattle.std.proofs.Common.{◌≡◌, ℕ, ◌≤◌, List, [], sym, arith, subst}
use Rattle.ps_shown.specs.declared.kept.Kept.{Kept}
use Rattle.ps_shown.specs.Shown.{shown_at}
use Rattle.ps_delta.specs.State.{State, IsInGrid, empty_state}
use Rattle.ps_delta.specs.Deltas.{Entries, joined_history}
use Rattle.ps_delta.proofs.HistoryLemmas.{joined_history-nil}
use Rattle.ps_grid.specs.declared.parties.TheConstants.{REPLICAS}
use Rattle.ps_cells.specs.Settled.{IsSettled}
use Rattle.ps_cells.proofs.EmptyCells.{in_grid_empty}
use Rattle.ps_sheet.specs.Sheet.{IsFresh, IsSheet}

-- a sheet of no delta that shows nothing
pub sheet_open : (replica : ℕ) (history : List Entries) (shown : List Kept) (workers : ℕ) → history ≡ []
    → (1 ≤ replica) × (replica ≤ REPLICAS) → IsSettled empty_state (shown_at shown)
    → IsSheet (record { replica = replica; history = history; shown = shown; workers = workers })
sheet_open replica history shown workers none range settled = record {
  settled = subst (λ (h : List Entries). IsSettled (joined_history h) (shown_at shown)) (sym none)
      (subst (λ (s : State). IsSettled s (shown_at shown)) (sym joined_history-nil) settled);
  fresh = subst IsFresh (sym none) (λ k lt. absurd (omega arith));
  in_grid = subst (λ (h : List Entries). IsInGrid (joined_history h)) (sym none)
      (subst IsInGrid (sym joined_history-nil) in_grid_empty);
  replica = range;
}
