-- What a delta stores: one cell with its state, or a list of them.
use Rattle.std.specs.Prelude.{[], ◌∷◌}
use Rattle.std.specs.Arc.{arc_value}
use Rattle.ps_delta.specs.declared.delta_cells.DeltaCells.{DeltaCells}
use Rattle.ps_delta.specs.declared.delta_cells.DeltaCells.TheVariants.{One, Several}
use Rattle.ps_delta.specs.Deltas.{Entries}

abbrev pub kept_entries : DeltaCells → Entries
kept_entries (One entry) = entry ∷ []
kept_entries (Several list) = (arc_value list).items
