-- What a mark notes about the touched cells.
use Rattle.std.specs.Prelude.{◌≡◌, ℕ, Bool, false, not, ◌&&◌, List, nat_eq, slice_index_or}
use Rattle.std.specs.List.{list_any}

-- exactly the touched cells are flagged
abbrev pub FlagsTouched : List Bool → List ℕ → Type 0
FlagsTouched fresh touched = (c : ℕ) → slice_index_or fresh c false ≡ list_any (nat_eq c) touched

-- exactly the touched cells without a formula are plain
abbrev pub IsPlain : (ℕ → Bool) → List Bool → List ℕ → Type 0
IsPlain formula plain touched =
    (c : ℕ) → slice_index_or plain c false ≡ (list_any (nat_eq c) touched && not (formula c))

-- of a cell of the region: whether it has a formula
abbrev pub not_plain : List Bool → ℕ → Bool
not_plain plain c = not (slice_index_or plain c false)
