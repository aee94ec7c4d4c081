-- The items that SUM, MIN, MAX and COUNT take, and what they make of a list of items.
use Rattle.std.specs.Prelude.{ℕ, not, List, [], ◌∷◌, length, fold, filter, flat_map, count_ones, Option, Some}
use Rattle.std.specs.Prelude.{None, Ok, Err, ℤ, pos, ◌+ℤ◌}
use Rattle.std.specs.List.{list_all, list_any}
use Rattle.std.specs.Int.{int_min, int_max}
use Rattle.ps_grid.specs.Rectangle.{Area, is_inside, cells_of}
use Rattle.ps_value.specs.declared.value.Value.{Value}
use Rattle.ps_value.specs.declared.value.Value.TheVariants.{Empty, Num, Text, Choice, Err as Shows}
use Rattle.ps_value.specs.declared.value.Fault.{Fault}
use Rattle.ps_value.specs.declared.value.Fault.TheVariants.{Value as NoNumber}
use Rattle.ps_eval.specs.Number.{Number, exact, truth, is_zero}

-- a value for each cell
abbrev pub Assignment : Type 0
Assignment = ℕ → Value

-- a cell's value where one number is wanted
abbrev pub single : Value → Number
single Empty = Ok (pos 0)
single (Num n) = Ok n
single (Text text) = Err NoNumber
single (Choice options) = Ok (pos (count_ones options))
single (Shows fault) = Err fault

-- a cell's value among items: an empty cell and a text are passed over
abbrev pub cell_items : Value → List Number
cell_items Empty = []
cell_items (Num n) = Ok n ∷ []
cell_items (Text text) = []
cell_items (Choice options) = Ok (pos (count_ones options)) ∷ []
cell_items (Shows fault) = Err fault ∷ []

-- the cells that a range refers to, row by row; no range of a formula reaches past the grid, so the filter leaves none
-- out
abbrev pub range_cells : Area → List ℕ
range_cells a = filter (is_inside a) (cells_of a)

-- the items of a range, row by row
abbrev pub range_items : Assignment → Area → List Number
range_items v a = flat_map (λ c. cell_items (v c)) (range_cells a)

-- the numbers among the items
abbrev pub numbers_in : List Number → List ℤ
numbers_in [] = []
numbers_in (Ok n ∷ items) = n ∷ numbers_in items
numbers_in (Err fault ∷ items) = numbers_in items

-- the first fault among the items
abbrev pub first_fault : List Number → Option Fault
first_fault [] = None
first_fault (Ok n ∷ items) = first_fault items
first_fault (Err fault ∷ items) = Some fault

abbrev pub unless_fault : Option Fault → Number → Number
unless_fault (Some fault) x = Err fault
unless_fault None x = x

abbrev pub total : List ℤ → ℤ
total ns = fold ◌+ℤ◌ (pos 0) ns

-- 0 where there is none
abbrev pub least : List ℤ → ℤ
least [] = pos 0
least (n ∷ ns) = fold int_min n ns

abbrev pub greatest : List ℤ → ℤ
greatest [] = pos 0
greatest (n ∷ ns) = fold int_max n ns

-- the exact sum, with one test of the range at the end
abbrev pub sum_of : List Number → Number
sum_of items = unless_fault (first_fault items) (exact (total (numbers_in items)))

abbrev pub min_of : List Number → Number
min_of items = unless_fault (first_fault items) (Ok (least (numbers_in items)))

abbrev pub max_of : List Number → Number
max_of items = unless_fault (first_fault items) (Ok (greatest (numbers_in items)))

-- a fault is passed over
abbrev pub count_of : List Number → Number
count_of items = exact (pos (length (numbers_in items)))

-- AND and OR: the first fault of any argument, whatever the others are
abbrev pub all_of : List Number → Number
all_of values = unless_fault (first_fault values) (Ok (truth (list_all (λ n. not (is_zero n)) (numbers_in values))))

abbrev pub any_of : List Number → Number
any_of values = unless_fault (first_fault values) (Ok (truth (list_any (λ n. not (is_zero n)) (numbers_in values))))
