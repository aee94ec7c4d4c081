-- New replicas, and a world that follows another one by one event.
use Rattle.std.specs.Prelude.{◌≡◌, ℕ, List, [], length, Some}
use Rattle.std.specs.BTreeSet.{IsEmpty}
use Rattle.ps_sheet.specs.Sheet.{IsSheet}
use Rattle.ps_world.specs.Replicas.{ReplicaView, WorldView, replica_at, world_of}
use Rattle.ps_world.specs.World.{after}
use Rattle.ps_world.specs.declared.event.Event.{Event}

-- the world v is the world w after the event
pub record IsAfter (e : Event) (w v : WorldView) : Type 0 where
  pub replicas : length v.replicas ≡ length w.replicas
  pub state : world_of v ≡ after (length w.replicas) (world_of w) e

-- an empty sheet of replica r, where nothing was taken yet
pub record IsNew (r : ℕ) (x : ReplicaView) : Type 0 where
  pub sheet : IsSheet x.sheet
  pub own : x.sheet.replica ≡ r
  pub history : x.sheet.history ≡ []
  pub taken : IsEmpty x.taken

-- each replica of a list is new
abbrev pub AreNew : List ReplicaView → Type 0
AreNew replicas = (r : ℕ) (x : ReplicaView) → replica_at replicas r ≡ Some x → IsNew r x
