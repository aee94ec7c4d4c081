-- What clauses read of a sink over a writer, and of a console over a writer.
use Rattle.std.specs.Prelude.{ℕ, Bool, List, Option, drop}
use Rattle.std.specs.Io.KnownBytes.{append_known}
use Rattle.std.specs.declared.io.traits.Write.{Ghosts}
use Rattle.ps_device.specs.declared.console.ConsoleOutput.{ConsoleOutput}
use Rattle.ps_device.specs.declared.stream.Writing.{Writing}

-- the writer of a sink
abbrev pub writer_of : {W L : Type 0} → Writing W L → W
writer_of sink = sink.writer

-- the writer of a console
abbrev pub console_writer : {W L : Type 0} {G : Ghosts W} → ConsoleOutput W L G → W
console_writer output = output.sink.writer

-- the bytes that were put and that the writer hasn't been given yet
abbrev pub console_waiting : {W L : Type 0} {G : Ghosts W} → ConsoleOutput W L G → List ℕ
console_waiting output = drop output.sent output.bytes.items

-- the bytes that the writer has, where it shows them, and then those that wait
abbrev pub console_contents : {W L : Type 0} {G : Ghosts W} → (W → Option (List ℕ)) → ConsoleOutput W L G
    → Option (List ℕ)
console_contents contents output = append_known (contents (console_writer output)) (console_waiting output)

-- a call failed, so nothing more is written
abbrev pub has_failed : {W L : Type 0} {G : Ghosts W} → ConsoleOutput W L G → Bool
has_failed output = output.is_stopped
