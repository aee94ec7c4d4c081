-- A file with digest lines, as its callers see it, and what its parts hold.
use Rattle.std.specs.Prelude.{◌≡◌, ◌≤◌, ◌<◌, ◌-◌, ℕ, Bool, List, [], ◌++◌, length, take, false, ⊤}
use Rattle.md5.specs.Md5.{Holds}
use Rattle.md5.specs.declared.Md5.{Md5}
use Rattle.ps_keep.specs.Digests.{AreDigested, EndsInDigest, EndsLine, HaveNoDigests, IsClean}
use Rattle.ps_keep.specs.Digests.{IsLastDigest, IsWrongDigest}
use Rattle.ps_keep.specs.Digests.{ReadsAfterCrashes, ReadsAs, others, since}
use Rattle.ps_keep.specs.declared.digested.Damage.{Damage}
use Rattle.ps_keep.specs.declared.digested.DigestFault.{DigestFault}
use Rattle.ps_keep.specs.declared.digested.DigestFault.TheVariants as faults
use Rattle.ps_keep.specs.Lines.{AreLines, IsLine, text, whole_lines}

-- a found file: its bytes, and those of its lines that aren't digest lines
pub record FoundView : Type 0 where
  pub raw : List ℕ
  pub clean : List ℕ

pub record DeviceView : Type 0 where
  -- what the file was given, digest lines too, and how much of it is on the disk
  pub raw : List ℕ
  pub on_disk : ℕ
  -- what the caller wrote, and how much of that was synced
  pub written : List ℕ
  pub synced : ℕ
  -- the first of it, that the file had at the start
  pub opened : List ℕ
  pub has_failed : Bool
  pub is_cut : Bool
  pub cut_failed : Bool

-- the parts of a found file: how many bytes its whole lines have, and a hasher of those from the last digest line on
pub record IsRead (raw clean : List ℕ) (whole : ℕ) (hasher : Md5) : Type 0 where
  pub is_clean : IsClean raw clean
  pub within : whole ≤ length raw
  pub ends : take whole raw ≡ text (whole_lines raw)
  pub hashed : Holds hasher (since [] (whole_lines raw))

-- the file has what was written, with right digest lines between. These bytes came since the last one began
pub record Mirrors (raw written held : List ℕ) : Type 0 where
  pub lines : List (List ℕ)
  pub rest : List ℕ
  pub each : AreLines lines
  pub open_end : IsLine rest
  pub has : raw ≡ text lines ++ rest
  pub was_given : written ≡ text (others lines) ++ rest
  pub digested : AreDigested [] lines
  pub holds : held ≡ since [] lines ++ rest

-- .. and the hasher has taken in these
pub record Hashes (raw written : List ℕ) (hasher : Md5) : Type 0 where
  pub held : List ℕ
  pub mirrors : Mirrors raw written held
  pub hashed : Holds hasher held

-- the parts of a file that is appended to. Nothing is said of what a caller wrote that has digest lines itself
pub record IsDigested (raw : List ℕ) (on_disk : ℕ) (written : List ℕ) (synced : ℕ) (has_failed : Bool) (hasher : Md5) :
    Type 0 where
  pub within : on_disk ≤ length raw
  pub no_more : synced ≤ length written
  pub going : has_failed ≡ false → HaveNoDigests (whole_lines written) → Hashes raw written hasher
  pub crashes : HaveNoDigests (whole_lines written) → ReadsAfterCrashes raw on_disk written synced
  pub cut : HaveNoDigests (whole_lines written) → ReadsAs (take on_disk raw) (take synced written)

-- COVERED: once something was written, and a line is ended, the file ends in a digest line
pub record IsCovered (opened raw written : List ℕ) (has_failed : Bool) : Type 0 where
  pub is : has_failed ≡ false → HaveNoDigests (whole_lines written) → length opened < length written
      → EndsLine written → EndsInDigest raw

-- DAMAGE: the first wrong digest line among these lines, and the last one before it
pub record IsDamage (lines : List (List ℕ)) (damage : Damage) : Type 0 where
  pub wrong : IsWrongDigest lines damage.wrong
  pub intact : IsLastDigest (take (damage.wrong - 1) lines) damage.intact

-- why the digest lines among these lines aren't taken
abbrev pub IsFault : List (List ℕ) → DigestFault → Type 0
IsFault lines faults.Memory = ⊤
IsFault lines (faults.Line damage) = IsDamage lines damage
