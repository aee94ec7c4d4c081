-- Digest lines of a file, by which a start sees damage.
use Rattle.std.specs.Prelude.{◌≡◌, ◌≢◌, ◌⊎◌, ◌&&◌, ℕ, ◌+◌, ◌/◌, ◌%◌, ◌^◌, ◌<◌, Bool, true, false, not, nat_eq, nat_lt}
use Rattle.std.specs.Prelude.{List, [], ◌∷◌, ◌++◌, length, take, filter, codes, if◌then◌else◌, ⊤}
use Rattle.std.specs.List.{starts_with}
use Rattle.md5.specs.Md5.{md5}
use Rattle.ps_keep.specs.Crash.{IsLeft, IsTorn}
use Rattle.ps_keep.specs.Lines.{text, whole_lines}

-- a hex digit, in lower case
abbrev pub hex_digit : ℕ → ℕ
hex_digit n = if nat_lt n 10 then 48 + n else 87 + n

-- bytes as hex digits, two for each
abbrev pub hex : List ℕ → List ℕ
hex [] = []
hex (b ∷ bs) = hex_digit (b / 16) ∷ hex_digit (b % 16) ∷ hex bs

-- the text of the digest of bytes: the first 8 bytes of their MD5 (RFC 1321), in hex
abbrev pub digest_text : List ℕ → List ℕ
digest_text bytes = hex (take 8 (md5 bytes))

-- "replica "
abbrev pub digest_word : List ℕ
digest_word = codes "replica "

-- the line that tells the digest of bytes, without its line feed
abbrev pub digest_line : List ℕ → List ℕ
digest_line bytes = digest_word ++ digest_text bytes

-- a line is a digest line by its form: its length and its first word
abbrev pub is_digest_line : List ℕ → Bool
is_digest_line line = nat_eq (length line) 24 && starts_with nat_eq line digest_word

-- the lines that aren't digest lines
abbrev pub others : List (List ℕ) → List (List ℕ)
others lines = filter (λ line. not (is_digest_line line)) lines

-- none of the lines is a digest line
abbrev pub HaveNoDigests : List (List ℕ) → Type 0
HaveNoDigests [] = ⊤
HaveNoDigests (line ∷ lines) = (is_digest_line line ≡ false) × HaveNoDigests lines

-- the bytes from the last digest line on, after this line, where these bytes came before it
abbrev pub after_line : List ℕ → List ℕ → List ℕ
after_line before line = if is_digest_line line then line ++ 10 ∷ [] else before ++ (line ++ 10 ∷ [])

-- .. and after these lines
abbrev pub since : List ℕ → List (List ℕ) → List ℕ
since before [] = before
since before (line ∷ lines) = since (after_line before line) lines

-- DIGESTED: each digest line tells the digest of the bytes from the last one on, where these bytes came before the
-- lines
abbrev pub AreDigested : List ℕ → List (List ℕ) → Type 0
AreDigested before [] = ⊤
AreDigested before (line ∷ lines) = (is_digest_line line ≡ true → line ≡ digest_line before)
    × AreDigested (after_line before line) lines

-- the last of these bytes is a line feed
abbrev pub EndsLine : List ℕ → Type 0
EndsLine bytes = (front : List ℕ) × (bytes ≡ front ++ 10 ∷ [])

-- .. after a line that tells a digest
abbrev pub EndsInDigest : List ℕ → Type 0
EndsInDigest bytes = (front told : List ℕ) × (bytes ≡ front ++ (digest_line told ++ 10 ∷ []))

-- CLEAN: the file's digest lines are right, and these are its other lines. A file without a whole line is clean
pub record IsClean (raw clean : List ℕ) : Type 0 where
  pub digested : AreDigested [] (whole_lines raw)
  pub lines : whole_lines clean ≡ others (whole_lines raw)
  pub some_line : whole_lines raw ≢ [] → clean ≡ text (others (whole_lines raw))
  pub no_line : whole_lines raw ≡ [] → clean ≡ raw

-- the line of this number, from 1 on, is a digest line that tells another digest. Those before it are right
pub record IsWrongDigest (lines : List (List ℕ)) (number : ℕ) : Type 0 where
  pub before : List (List ℕ)
  pub line : List ℕ
  pub after : List (List ℕ)
  pub is : lines ≡ before ++ line ∷ after
  pub counts : number ≡ length before + 1
  pub digested : AreDigested [] before
  pub has_form : is_digest_line line ≡ true
  pub wrong : line ≢ digest_line (since [] before)

-- the last digest line among these lines has this number, from 1 on; 0 where none stands
pub record IsLastDigest (lines : List (List ℕ)) (number : ℕ) : Type 0 where
  pub up_to : List (List ℕ)
  pub after : List (List ℕ)
  pub is : lines ≡ up_to ++ after
  pub counts : number ≡ length up_to
  pub ends : (up_to ≡ [])
      ⊎ ((front : List (List ℕ)) × (line : List ℕ) × (up_to ≡ front ++ line ∷ []) × (is_digest_line line ≡ true))
  pub none : HaveNoDigests after

-- READS AS: a file's digest lines are right, and its other lines are those of these bytes
pub record ReadsAs (raw bytes : List ℕ) : Type 0 where
  pub digested : AreDigested [] (whole_lines raw)
  pub lines : whole_lines bytes ≡ others (whole_lines raw)
  pub no_line : whole_lines raw ≡ [] → bytes ≡ raw

-- for each digest line, how many other lines stand before it, where there were so many before all of these
abbrev pub others_before : ℕ → List (List ℕ) → List ℕ
others_before count [] = []
others_before count (line ∷ lines) = if is_digest_line line then count ∷ others_before count lines
    else others_before (count + 1) lines

-- NUMBERED: the digest lines of a file stand behind so many others
pub record AreNumbered (lines : List (List ℕ)) (before : List ℕ) : Type 0 where
  pub is : before ≡ others_before 0 lines
  pub fits : length lines < 2 ^ 64

-- READS AFTER CRASHES: whatever a crash leaves of the file reads as something that a crash could leave of these bytes
abbrev pub ReadsAfterCrashes : List ℕ → ℕ → List ℕ → ℕ → Type 0
ReadsAfterCrashes raw on_disk written synced =
    (left : List ℕ) → IsLeft raw on_disk left
    → (read : List ℕ) × IsLeft written synced read × ReadsAs left read

-- .. and where a crash has torn the end of the file, a wrong digest line stands after all lines that were on the disk
abbrev pub WrongAfterTears : List ℕ → ℕ → Type 0
WrongAfterTears raw on_disk =
    (left : List ℕ) (number : ℕ) → IsTorn raw on_disk left → IsWrongDigest (whole_lines left) number
    → length (whole_lines (take on_disk raw)) < number
