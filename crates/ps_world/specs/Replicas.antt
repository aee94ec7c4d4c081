-- The world of replicas, as contracts see it.
use Rattle.std.specs.Prelude.{◌≡◌, ℕ, zero, suc, ◌≤◌, Bool, true, false, List, length, slice_get}
use Rattle.std.specs.Prelude.{Option, Some, None}
use Rattle.std.specs.Option.{option_map_or}
use Rattle.std.specs.Ordering.{nat_cmp}
use Rattle.std.specs.BTreeSet.{BTreeSet, contains}
use Rattle.ps_delta.specs.Deltas.{Entries, joined_history}
use Rattle.ps_shown.specs.Shown.{shown_at}
use Rattle.ps_cells.specs.Settled.{IsSettled}
use Rattle.ps_sheet.specs.Sheet.{SheetView, IsSheet}
use Rattle.ps_world.specs.World.{WorldState, joined_of}

-- a replica's sheet, and the numbers of the deltas that it took
pub record ReplicaView : Type 0 where
  pub sheet : SheetView
  pub taken : BTreeSet ℕ

-- the deltas that were made or added, and the replicas
pub record WorldView : Type 0 where
  pub deltas : List Entries
  pub replicas : List ReplicaView

-- the replica with a number, counted from 1
abbrev pub replica_at : List ReplicaView → ℕ → Option ReplicaView
replica_at replicas zero = None
replica_at replicas (suc i) = slice_get replicas i

-- whether replica r took the delta with number k
abbrev pub has_taken : List ReplicaView → ℕ → ℕ → Bool
has_taken replicas r k = option_map_or (λ x. contains nat_cmp x.taken k) (replica_at replicas r) false

-- the deltas of a world, with who took which
abbrev pub world_of : WorldView → WorldState
world_of w = record { deltas = w.deltas; took = has_taken w.replicas }

-- the sheet x of replica r: its history joins to the state that the deltas that r took join to, and all of these exist
pub record IsReplica (w : WorldState) (r : ℕ) (x : ReplicaView) : Type 0 where
  pub sheet : IsSheet x.sheet
  pub own : x.sheet.replica ≡ r
  pub joined : joined_history x.sheet.history ≡ joined_of w r
  pub known : (k : ℕ) → w.took r k ≡ true → k ≤ length w.deltas

-- each replica of the world is an `IsReplica`
abbrev pub IsWorld : WorldView → Type 0
IsWorld w = (r : ℕ) (x : ReplicaView) → replica_at w.replicas r ≡ Some x → IsReplica (world_of w) r x

-- each sheet shows the settled values of the join of the deltas that its replica took
abbrev pub ShowsSettled : WorldView → Type 0
ShowsSettled w =
    (r : ℕ) (x : ReplicaView) → replica_at w.replicas r ≡ Some x
    → IsSettled (joined_of (world_of w) r) (shown_at x.sheet.shown)

-- two replicas that took the same deltas show the same value in each cell
abbrev pub SameTakenShowTheSame : WorldView → Type 0
SameTakenShowTheSame w =
    (q r : ℕ) (x y : ReplicaView) → replica_at w.replicas q ≡ Some x → replica_at w.replicas r ≡ Some y
    → ((k : ℕ) → has_taken w.replicas q k ≡ has_taken w.replicas r k) → shown_at x.sheet.shown ≡ shown_at y.sheet.shown
