-- The arguments of a call as a list.
use Rattle.std.proofs.Common.{◌≡◌, refl, ap, List, [], ◌∷◌, length, arith}
use Rattle.ps_formula.specs.Tree.{Item, Items, no_items, item_and, in_row, count_of}

abbrev pub listed : Items → List Item
listed no_items = []
listed (item_and i is) = i ∷ listed is

pub in_row-listed : (is : Items) → in_row (listed is) ≡ is
in_row-listed no_items = refl
in_row-listed (item_and i is) = ap (item_and i) (in_row-listed is)

pub length-listed : (is : Items) → length (listed is) ≡ count_of is
length-listed no_items = refl
length-listed (item_and i is) = let more = length-listed is in omega arith
