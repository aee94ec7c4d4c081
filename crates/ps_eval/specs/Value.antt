-- The value of a formula's tree, where each cell has a value.
use Rattle.std.specs.Prelude.{List, [], ◌∷◌, ◌++◌, Ok, Err, pos}
use Rattle.ps_value.specs.declared.value.Value.{Value}
use Rattle.ps_value.specs.declared.value.Value.TheVariants.{Num, Err as Shows}
use Rattle.ps_value.specs.declared.value.Fault.TheVariants.{Value as NoNumber}
use Rattle.ps_tokens.specs.declared.token.Function.{Function}
use Rattle.ps_tokens.specs.declared.token.Function.TheVariants.{Sum, Min, Max, Count, If, Mod, Quotient, Abs}
use Rattle.ps_tokens.specs.declared.token.Function.TheVariants.{And, Or, Not, True, False}
use Rattle.ps_formula.specs.Tree.{Tree, Item, Items, number, reference, signed, joined, group, call, expression}
use Rattle.ps_formula.specs.Tree.{range, no_items, item_and}
use Rattle.ps_eval.specs.Number.{Number, is_zero, truth, modulo, quotient, absolute, prefixed, operation}
use Rattle.ps_eval.specs.Number.{on_one, on_both, chosen}
use Rattle.ps_eval.specs.Items.{Assignment, single, cell_items, range_items, sum_of, min_of, max_of, count_of}
use Rattle.ps_eval.specs.Items.{all_of, any_of}

-- the result of a call, by the items or by the values of its arguments. SUM, MIN, MAX, COUNT, AND and OR take any count
-- of arguments. For the others a count that the grammar forbids gives a fault
abbrev pub called : Function → List Number → List Number → Number
called Sum items values = sum_of items
called Min items values = min_of items
called Max items values = max_of items
called Count items values = count_of items
called And items values = all_of values
called Or items values = any_of values
called If items (condition ∷ x ∷ []) = chosen condition x (Ok (pos 0))
called If items (condition ∷ x ∷ y ∷ []) = chosen condition x y
called Mod items (x ∷ y ∷ []) = on_both modulo x y
called Quotient items (x ∷ y ∷ []) = on_both quotient x y
called Abs items (x ∷ []) = on_one absolute x
called Not items (x ∷ []) = on_one (λ n. Ok (truth (is_zero n))) x
called True items [] = Ok (pos 1)
called False items [] = Ok (pos 0)
called _ items values = Err NoNumber

-- the items of an argument that isn't a range: a reference that stands alone is a range of one cell
abbrev pub items_alone : Tree → Assignment → Number → List Number
items_alone (reference c) v value = cell_items (v c)
items_alone _ v value = value ∷ []

abbrev mutual
  pub number_of : Tree → Assignment → Number
  number_of (number n) v = Ok n
  number_of (reference c) v = single (v c)
  number_of (signed s a) v = on_one (prefixed s) (number_of a v)
  number_of (joined a o b) v = on_both (operation o) (number_of a v) (number_of b v)
  number_of (group a) v = number_of a v
  number_of (call f args) v = called f (items_of args v) (values_of args v)

  -- the items of the arguments, from left to right
  pub items_of : Items → Assignment → List Number
  items_of no_items v = []
  items_of (item_and arg args) v = items_in arg v ++ items_of args v

  pub items_in : Item → Assignment → List Number
  items_in (expression a) v = items_alone a v (number_of a v)
  items_in (range a) v = range_items v a

  -- the values of the arguments, from left to right
  pub values_of : Items → Assignment → List Number
  values_of no_items v = []
  values_of (item_and arg args) v = value_in arg v ∷ values_of args v

  -- a range is no number
  pub value_in : Item → Assignment → Number
  value_in (expression a) v = number_of a v
  value_in (range a) v = Err NoNumber

abbrev pub shown_as : Number → Value
shown_as (Ok n) = Num n
shown_as (Err fault) = Shows fault

-- the value of a formula
abbrev pub ev : Tree → Assignment → Value
ev t v = shown_as (number_of t v)
