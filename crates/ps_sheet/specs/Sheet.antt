-- The sheet of one replica, as contracts see it.
use Rattle.std.specs.Prelude.{◌≡◌, ℕ, ◌<◌, ◌≤◌, ◌⊎◌, List, [], ◌∷◌, ◌++◌, length, take, slice_index_or, ◌↔◌}
use Rattle.std.specs.Prelude.{Contains}
use Rattle.ps_shown.specs.declared.kept.Kept.{Kept}
use Rattle.ps_shown.specs.Shown.{shown_at}
use Rattle.ps_delta.specs.State.{IsInGrid, IsBelow}
use Rattle.ps_delta.specs.Deltas.{Entries, state_of, joined_history}
use Rattle.ps_grid.specs.declared.parties.TheConstants.{REPLICAS}
use Rattle.ps_cells.specs.Settled.{IsSettled}

-- the replica, the accepted deltas that changed the state, what each cell shows, and the number of workers
pub record SheetView : Type 0 where
  pub replica : ℕ
  pub history : List Entries
  pub shown : List Kept
  pub workers : ℕ

-- no delta is below the join of those before it
abbrev pub IsFresh : List Entries → Type 0
IsFresh history =
    (k : ℕ) → k < length history
    → ¬ IsBelow (state_of (slice_index_or history k [])) (joined_history (take k history))

-- what holds of each sheet: what it shows is settled for the joined history, and no delta of the history is below the
-- join of those before it
pub record IsSheet (x : SheetView) : Type 0 where
  pub settled : IsSettled (joined_history x.history) (shown_at x.shown)
  pub fresh : IsFresh x.history
  pub in_grid : IsInGrid (joined_history x.history)
  pub replica : (1 ≤ x.replica) × (x.replica ≤ REPLICAS)

-- ACCEPTED: the history k is h with the delta d appended, or h itself if d is below the join of h
abbrev pub Takes : Entries → List Entries → List Entries → Type 0
Takes d h k =
    (IsBelow (state_of d) (joined_history h) × (k ≡ h))
    ⊎ ((¬ IsBelow (state_of d) (joined_history h)) × (k ≡ h ++ d ∷ []))

-- the deltas of a list, accepted one after another, lead from the history h to the history k
abbrev pub Accepts : List Entries → List Entries → List Entries → Type 0
Accepts h [] k = k ≡ h
Accepts h (d ∷ ds) k = (m : List Entries) × Takes d h m × Accepts m ds k

-- LAW: a history to which deltas were accepted joins to the same state as if all of them had been appended
abbrev pub AcceptedDeltasJoin : Type 0
AcceptedDeltasJoin = (ds h k : List Entries) → Accepts h ds k → joined_history k ≡ joined_history (h ++ ds)

-- both histories come from the empty one by accepting the same deltas, in whatever order and however often
abbrev pub TookTheSame : List Entries → List Entries → Type 0
TookTheSame h k =
    (ds : List Entries) × (es : List Entries) × ((d : Entries) → Contains ds d ↔ Contains es d)
    × Accepts [] ds h × Accepts [] es k
