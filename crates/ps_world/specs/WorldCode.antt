-- Codes of what contracts see of a world. Nothing but the views of `Replica` and `World` uses them.
use Rattle.std.specs.Prelude.{ℕ, List, refl}
use Rattle.std.specs.Coded.{Coded, code_by, coded×, coded_ℕ, coded_list}
use Rattle.ps_delta.specs.Deltas.{Entries}
use Rattle.ps_delta.specs.contracts.delta.Delta as delta
use Rattle.ps_sheet.specs.Sheet.{SheetView}
use Rattle.ps_sheet.specs.SheetCode.{sheet_code}
use Rattle.ps_world.specs.Replicas.{ReplicaView, WorldView}

-- a replica is stored as the pair of its parts
abbrev pub replica_code : Coded ReplicaView
replica_code =
    code_by (SheetView × List ℕ) (coded× sheet_code (coded_list coded_ℕ))
    (λ x. (x.sheet, x.taken.keys)) (λ p. record { sheet = p.0; taken = record { keys = p.1 } }) (λ _. refl)

-- a world is stored as the pair of its parts
abbrev pub world_code : Coded WorldView
world_code =
    code_by (List Entries × List ReplicaView)
    (coded× (coded_list delta.the_row.coded) (coded_list replica_code))
    (λ w. (w.deltas, w.replicas)) (λ p. record { deltas = p.0; replicas = p.1 }) (λ _. refl)
