-- The file after a crash.
use Rattle.std.specs.Prelude.{◌≡◌, ◌≤◌, ℕ, List, length, take}
use mathlib.Core.List.{IsPrefix}
use Rattle.ps_keep.specs.Lines.{whole_lines}

-- LEFT: a beginning of what was written, that has at least what was synced
pub record IsLeft (written : List ℕ) (synced : ℕ) (left : List ℕ) : Type 0 where
  pub front : IsPrefix left written
  pub enough : synced ≤ length left

-- TORN: what was synced, and after it any bytes at all, no more of them than were written
pub record IsTorn (written : List ℕ) (synced : ℕ) (left : List ℕ) : Type 0 where
  pub same : take synced left ≡ take synced written
  pub enough : synced ≤ length left
  pub no_longer : length left ≤ length written

-- what is read begins with what was acknowledged, and is a beginning of what was noted
pub record StandsBetween (acknowledged noted read : List (List ℕ)) : Type 0 where
  pub all_acknowledged : IsPrefix acknowledged read
  pub nothing_else : IsPrefix read noted

-- every file after a crash stands between
abbrev pub SurvivesCrashes : List ℕ → ℕ → List (List ℕ) → List (List ℕ) → Type 0
SurvivesCrashes written synced acknowledged noted =
    (left : List ℕ) → IsLeft written synced left → StandsBetween acknowledged noted (whole_lines left)

-- if the end is torn too, what was acknowledged is still read first
abbrev pub SurvivesTears : List ℕ → ℕ → List (List ℕ) → Type 0
SurvivesTears written synced acknowledged =
    (left : List ℕ) → IsTorn written synced left → IsPrefix acknowledged (whole_lines left)
