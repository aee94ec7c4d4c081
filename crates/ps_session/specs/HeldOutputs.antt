-- What contracts see of an output that holds back what is put.
use Rattle.std.specs.Prelude.{ℕ, List, Option, ◌++◌, drop}
use Rattle.std.specs.Io.KnownBytes.{append_known}
use Rattle.ps_device.specs.declared.device.Sink.{Ghosts}
use Rattle.ps_session.specs.declared.held_output.HeldOutput.{HeldOutput}

-- the sink below
abbrev pub sink_of : {K L : Type 0} {G : Ghosts K} → HeldOutput K L G → K
sink_of output = output.sink

-- the bytes that the sink below hasn't got yet
abbrev pub held_back : {K L : Type 0} {G : Ghosts K} → HeldOutput K L G → List ℕ
held_back output = drop output.sent output.room.bytes.items

-- the bytes that the sink below has, if it shows them, and then those that it hasn't got yet
abbrev pub held_contents : {K L : Type 0} {G : Ghosts K} → (K → Option (List ℕ)) → HeldOutput K L G → Option (List ℕ)
held_contents contents output = append_known (contents (sink_of output)) (held_back output)

-- the bytes that wait in the sink below, and then those that it hasn't got yet
abbrev pub held_waiting : {K L : Type 0} {G : Ghosts K} → (K → List ℕ) → HeldOutput K L G → List ℕ
held_waiting waiting output = waiting (sink_of output) ++ held_back output

-- how many calls failed so far
abbrev pub held_failures : {K L : Type 0} {G : Ghosts K} → HeldOutput K L G → ℕ
held_failures output = output.room.failed
