-- What a patch changes, as a list.
use Rattle.std.specs.Prelude.{ℕ, List, [], ◌∷◌}
use Rattle.ps_shown.specs.declared.kept.Kept.{Kept}
use Rattle.ps_face.specs.declared.changes.CellChanges.{CellChanges}
use Rattle.ps_face.specs.declared.changes.CellChanges.TheVariants.{One, Several}

-- each cell that changes, with its new value as a sheet stores it
abbrev pub entries_of : CellChanges → List (ℕ × Kept)
entries_of (One change) = change ∷ []
entries_of (Several changes) = changes.items
