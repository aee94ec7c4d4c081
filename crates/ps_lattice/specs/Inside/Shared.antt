-- The items of a shared list, and the entries of the join of two lists.
use Rattle.std.specs.Prelude.{List, [], ◌∷◌}
use Rattle.std.specs.Arc.{arc_value}
use Rattle.std.specs.declared.cmp.Ordering.{Ordering}
use Rattle.std.specs.FinMap as map
use Rattle.std.specs.Mem.{FitsInMemory}
use denote.RattleType.{RattleType}
use denote.Struct.Tuple.{Tuple}
use Rattle.ps_lattice.specs.declared.shared.SharedList.{SharedList}
use Rattle.ps_lattice.specs.declared.shared.SharedList.TheVariants.{Empty, One, Many}
use Rattle.ps_lattice.specs.Maps.{joined_maps}

abbrev pub items_of : {X : Type 0} → SharedList X → List X
items_of Empty = []
items_of (One item) = arc_value item ∷ []
items_of (Many list) = (arc_value list).items

-- an entry of a key and a value takes fewer than 2 ^ 63 bytes
abbrev pub EntryFits : RattleType → RattleType → Type 0
EntryFits key value = FitsInMemory (Tuple (key ∷ value ∷ []))

-- the entries of both lists in the order of their keys; the values of a key that both have are joined
abbrev pub joined_entries : {K X : Type 0} → (K → K → Ordering) → (X → X → X) → List (K × X) → List (K × X)
    → List (K × X)
joined_entries R f mine theirs =
    map.entries (joined_maps f (map.from_sorted {R = R} mine) (map.from_sorted {R = R} theirs))
