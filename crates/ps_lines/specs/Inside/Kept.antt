-- The lines of a kept file, as commands.
use Rattle.std.specs.Prelude.{◌≡◌, ℕ, List, Bool, true, false, Option, Some, None, Ok, Err}
use Rattle.ps_grid.specs.declared.refusal.Refusal.TheVariants as refusals
use Rattle.ps_delta.specs.Deltas.{Entries}
use Rattle.ps_lines.specs.Commands.{Read}
use Rattle.ps_lines.specs.PushLine.{IsPush, Pushes}
use Rattle.ps_lines.specs.ReplicaLine.{Tells}
use Rattle.ps_lines.specs.KeptLines.{LineSaysNothing}
use Rattle.ps_lines.specs.declared.command.Command.{Command}
use Rattle.ps_lines.specs.declared.command.Command.TheVariants as commands
use Rattle.ps_lines.specs.declared.verb.Verb.{Verb}
use Rattle.ps_lines.specs.declared.verb.Verb.TheVariants.{Push, Replica}

-- the verbs that a kept file has
abbrev pub is_kept_verb : Option Verb → Bool
is_kept_verb (Some Push) = true
is_kept_verb (Some Replica) = true
is_kept_verb _ = false

-- what a line with such a verb says in a kept file, given how a session reads the line
abbrev pub SaysAsked : List ℕ → Read Command → Type 0
SaysAsked line (Ok (commands.Push d)) = Pushes line d
SaysAsked line (Ok (commands.Replica (Some n))) = (¬ IsPush line) × ((m : ℕ) → Tells line m → m ≡ n)
SaysAsked line (Ok (commands.Replica None)) = LineSaysNothing line
SaysAsked line (Err refusals.Command) = LineSaysNothing line
SaysAsked line (Err refusals.Replica) = LineSaysNothing line
SaysAsked line (Err refusals.Delta) = IsPush line × ((d : Entries) → ¬ Pushes line d)
SaysAsked line (Err refusals.Memory) = IsPush line
SaysAsked line _ = ⊥
