-- Labels: short texts of one line.
use Rattle.std.specs.Prelude.{◌≡◌, ℕ, ◌-◌, ◌≤◌, Bool, not, ◌&&◌, ◌==◌, nat_le, IsTrue, List, ◌++◌, length, take}
use Rattle.std.specs.Prelude.{replicate}
use Rattle.std.specs.List.{list_all}
use Rattle.std.specs.Str.{is_utf8}
use Rattle.ps_value.specs.declared.TheConstants.{LABEL_BYTES}

-- a byte of a printed line: no control character, and not DEL
abbrev pub is_printed : ℕ → Bool
is_printed b = nat_le 32 b && not (b == 127)

-- 1 to LABEL_BYTES bytes of UTF-8, each printed
unfoldable pub is_label : List ℕ → Bool
is_label bytes =
    nat_le 1 (length bytes) && nat_le (length bytes) LABEL_BYTES && list_all is_printed bytes && is_utf8 bytes

abbrev pub IsLabel : List ℕ → Type 0
IsLabel bytes = IsTrue (is_label bytes)

-- the bytes, and zeros after them up to LABEL_BYTES
unfoldable pub padded : List ℕ → List ℕ
padded bytes = bytes ++ replicate (LABEL_BYTES - length bytes) 0

-- how a label is stored: its bytes in front, zeros after them up to LABEL_BYTES
pub record IsStored (room : List ℕ) (used : ℕ) : Type 0 where
  pub within : used ≤ length room
  pub zeros : room ≡ padded (take used room)
  pub label : IsLabel (take used room)
