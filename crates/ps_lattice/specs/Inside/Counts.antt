-- What a list of counts stores, as the entries that contracts see.
use Rattle.std.specs.Prelude.{ℕ, List, [], ◌∷◌}
use Rattle.std.specs.Arc.{arc_value}
use Rattle.ps_lattice.specs.declared.tally.Count.{Count}
use Rattle.ps_lattice.specs.declared.counts.CountList.{CountList}
use Rattle.ps_lattice.specs.declared.counts.CountList.TheVariants.{Empty, Small, Shared}
use Rattle.ps_lattice.specs.declared.counts.Entries.{Entries}
use Rattle.ps_lattice.specs.declared.counts.Entries.TheVariants.{One, Listed}

abbrev pub counts_in : CountList → List (ℕ × Count)
counts_in Empty = []
counts_in (Small replica added subtracted) = (replica, record { added = added; subtracted = subtracted }) ∷ []
counts_in (Shared list) = (arc_value list).items

abbrev pub entries_in : Entries → List (ℕ × Count)
entries_in (One entry) = entry ∷ []
entries_in (Listed list) = list.now
