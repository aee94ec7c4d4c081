-- The tree of a formula, as contracts see it: the cases of `Expr` and `Argument` without their pointers.
use Rattle.std.specs.Prelude.{ℕ, ℤ, ◌+◌, List, [], ◌∷◌}
use Rattle.ps_grid.specs.Rectangle.{Area}
use Rattle.ps_tokens.specs.declared.token.Function.{Function}
use Rattle.ps_tokens.specs.declared.token.Operator.{Operator}
use Rattle.ps_formula.specs.declared.expr.Sign.{Sign}

mutual
  pub data Tree : Type 0 where
    number : ℤ → Tree
    reference : ℕ → Tree
    signed : Sign → Tree → Tree
    joined : Tree → Operator → Tree → Tree
    group : Tree → Tree
    call : Function → Items → Tree

  -- an argument
  pub data Item : Type 0 where
    expression : Tree → Item
    range : Area → Item

  -- the arguments of a call, from left to right
  pub data Items : Type 0 where
    no_items : Items
    item_and : Item → Items → Items

-- a list of arguments as the arguments of a call
abbrev pub in_row : List Item → Items
in_row [] = no_items
in_row (i ∷ is) = item_and i (in_row is)

-- how many arguments there are
abbrev pub count_of : Items → ℕ
count_of no_items = 0
count_of (item_and i is) = 1 + count_of is
