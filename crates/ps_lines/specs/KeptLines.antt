-- What a line of a kept file says.
use Rattle.std.specs.Prelude.{ℕ, List}
use Rattle.ps_lines.specs.PushLine.{IsPush, Pushes}
use Rattle.ps_lines.specs.ReplicaLine.{Tells, TellsNone}
use Rattle.ps_lines.specs.declared.kept_line.KeptLine.{KeptLine}
use Rattle.ps_lines.specs.declared.kept_line.KeptLine.TheVariants as kept

-- the line gives the number of a replica, or pushes a delta
abbrev pub LineSays : List ℕ → KeptLine → Type 0
LineSays line (kept.Replica n) = Tells line n
LineSays line (kept.Push d) = Pushes line d

-- the line does neither
abbrev pub LineSaysNothing : List ℕ → Type 0
LineSaysNothing line = TellsNone line × ¬ IsPush line
