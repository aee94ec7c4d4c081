-- What holds of all kept sheets, at whatever moment a crash comes.
use Rattle.std.specs.Prelude.{◌≡◌, ◌+◌, ◌<◌, ◌≤◌, ℕ, List, [], length}
use Rattle.std.specs.List.{All}
use mathlib.Core.List.{IsPrefix}
use Rattle.ps_grid.specs.declared.parties.TheConstants.{REPLICAS}
use Rattle.ps_delta.specs.Deltas.{Entries, joined_history}
use Rattle.ps_sheet.specs.Sheet.{IsFresh}
use Rattle.ps_keep.specs.Crash.{IsLeft, IsTorn}
use Rattle.ps_keep.specs.Digests.{AreDigested, HaveNoDigests, IsClean, ReadsAfterCrashes}
use Rattle.ps_keep.specs.Journals.{JournalView}
use Rattle.ps_keep.specs.Lines.{text, whole_lines}
use Rattle.ps_lines.specs.Feeding.{without_return}
use Rattle.ps_squash.specs.Squashed.{IsSquashed}
use Rattle.ps_kept.specs.Kept.{IsKept, IsNoted, TellHistory, started}
use Rattle.ps_kept.specs.Starts.{IsFaultOf, IsFaulty, Outlives, Reads}
use Rattle.ps_kept.specs.declared.fault.KeepFault.{KeepFault}
use Rattle.ps_kept.specs.declared.fault.KeepFault.TheVariants as faults

-- LAW: a journal with a beginning of a history has a beginning of each longer history, too
abbrev pub StaysNoted : Type 0
StaysNoted =
    (replica : ℕ) (history more : List Entries) (j : JournalView) → IsNoted replica history j
    → IsPrefix history more → IsNoted replica more j

-- LAW: in the file after a crash, the next start reads a beginning of the history that was noted. It has at least the
-- changes that were durable
abbrev pub CrashesKeepSheets : Type 0
CrashesKeepSheets =
    (replica : ℕ) (kept history : List Entries) (j : JournalView) → IsKept replica kept j
    → IsNoted replica history j → IsFresh history → Outlives replica kept history j.written j.synced

-- LAW: a start reads at most one history in a file
abbrev pub OneHistory : Type 0
OneHistory =
    (replica : ℕ) (bytes : List ℕ) (h k : List Entries) → Reads replica bytes h → Reads replica bytes k → h ≡ k

-- LAW: a start refuses the lines of a file with a history only when out of memory
abbrev pub ReadFilesOpen : Type 0
ReadFilesOpen =
    (replica : ℕ) (bytes : List ℕ) (history : List Entries) (fault : KeepFault) → 1 ≤ replica → replica ≤ REPLICAS
    → Reads replica bytes history → IsFaultOf replica bytes fault → fault ≡ faults.Memory

-- LAW: in the file after a start, the next start reads the same history
abbrev pub ReadAgain : Type 0
ReadAgain =
    (replica : ℕ) (bytes : List ℕ) (history : List Entries) → replica ≤ REPLICAS → Reads replica bytes history
    → Reads replica (text (started replica (whole_lines bytes))) history

-- LAW: .. also if the first start crashes while it cuts the file
abbrev pub StartsMayCrash : Type 0
StartsMayCrash =
    (replica : ℕ) (bytes left : List ℕ) (history : List Entries) → Reads replica bytes history
    → IsLeft bytes (length (text (whole_lines bytes))) left → Reads replica left history

-- LAW: no line that tells a history has the form of a digest line
abbrev pub ToldLinesHaveNoDigests : Type 0
ToldLinesHaveNoDigests =
    (replica : ℕ) (lines : List (List ℕ)) (history : List Entries) → replica ≤ REPLICAS
    → TellHistory replica lines history → HaveNoDigests lines

-- of a journal's file with digest lines: after any crash, its digest lines are right. In its other lines a start reads
-- a beginning of the history that was noted, with at least the changes that were durable
abbrev pub OutlivesDigested : ℕ → List Entries → List Entries → List ℕ → ℕ → Type 0
OutlivesDigested replica kept history raw on_disk =
    (left : List ℕ) → IsLeft raw on_disk left
    → AreDigested [] (whole_lines left) × ((clean : List ℕ) → IsClean left clean
    → (read : List Entries) × Reads replica clean read × IsPrefix kept read × IsPrefix read history)

-- LAW: crashes keep sheets whose files have digest lines, too
abbrev pub CrashesKeepDigested : Type 0
CrashesKeepDigested =
    (replica : ℕ) (kept history : List Entries) (j : JournalView) (raw : List ℕ) (on_disk : ℕ) → replica ≤ REPLICAS
    → IsKept replica kept j → IsNoted replica history j → IsFresh history
    → (HaveNoDigests (whole_lines j.written) → ReadsAfterCrashes raw on_disk j.written j.synced)
    → OutlivesDigested replica kept history raw on_disk

-- LAW: a crash may put any bytes after those that were synced. If the next start then refuses a line, this line stands
-- after all lines that were durable
abbrev pub FaultsComeAfter : Type 0
FaultsComeAfter =
    (replica : ℕ) (kept : List Entries) (j : JournalView) (left : List ℕ) (number : ℕ) → IsKept replica kept j
    → IsFresh kept → IsTorn j.written j.synced left → IsFaulty replica (whole_lines left) number
    → length kept + 1 < number

-- each line ends in a line feed without a carriage return before it, as in each file that this program alone wrote
pub record IsPlain (bytes : List ℕ) : Type 0 where
  pub whole : text (whole_lines bytes) ≡ bytes
  pub no_return : All (λ line. without_return line ≡ line) (whole_lines bytes)

-- LAW: a start reads a history with the same join in what a file with a history is squashed to
abbrev pub SquashedFilesRead : Type 0
SquashedFilesRead =
    (replica : ℕ) (bytes squashed : List ℕ) (history : List Entries) → 1 ≤ replica → replica ≤ REPLICAS
    → Reads replica bytes history → IsPlain bytes → IsSquashed bytes squashed
    → (fewer : List Entries) × Reads replica squashed fewer × (joined_history fewer ≡ joined_history history)
