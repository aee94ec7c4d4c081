-- The digest line of a kept file: a checksum of the bytes before it.
use Rattle.std.specs.Prelude.{◌≡◌, ℕ, Bool, true, List, ◌++◌, ◌&&◌, codes, length, nat_eq, not}
use Rattle.std.specs.Char.{is_ascii_hexdigit, is_ascii_uppercase}
use Rattle.std.specs.List.{list_all}

-- a hex digit, 0 to 9 or a to f
abbrev pub is_digest_digit : ℕ → Bool
is_digest_digit b = is_ascii_hexdigit b && not (is_ascii_uppercase b)

-- a digest: sixteen such digits
unfoldable pub is_digest : List ℕ → Bool
is_digest word = nat_eq (length word) 16 && list_all is_digest_digit word

-- the line is `replica`, a space and a digest
abbrev pub IsDigestLine : List ℕ → Type 0
IsDigestLine line = (digest : List ℕ) × (line ≡ codes "replica " ++ digest) × (is_digest digest ≡ true)
