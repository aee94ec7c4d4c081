-- The tree that an expression of the program stands for: each box counts as what it holds.
use Rattle.ps_formula.specs.Tree.{Tree, Item, number, reference, signed, joined, group, call, expression, range}
use Rattle.ps_formula.specs.Tree.{in_row}
use Rattle.ps_formula.specs.declared.expr.Expr.{Expr}
use Rattle.ps_formula.specs.declared.expr.Argument.{Argument}
use Rattle.ps_formula.specs.declared.expr.Argument.TheOpen.{Expr-F, Argument-F, Operands-F}
use Rattle.ps_formula.specs.declared.expr.Argument.TheFolds.{fold-Expr, fold-Argument}

-- the trees of the operands on both sides of an operator
abbrev pub Sides : Type 0
Sides = Tree × Tree

abbrev pub item_step : Argument-F Item Tree Sides → Item
item_step (Argument-F.Expression a) = expression a
item_step (Argument-F.Range r) = range r

abbrev pub tree_step : Expr-F Item Tree Sides → Tree
tree_step (Expr-F.Numeral n) = number n
tree_step (Expr-F.Reference c) = reference c
tree_step (Expr-F.Prefix s a) = signed s a.value
tree_step (Expr-F.Infix o sides) = joined sides.value.0 o sides.value.1
tree_step (Expr-F.Group a) = group a.value
tree_step (Expr-F.Call f is) = call f (in_row is.items)

abbrev pub sides_step : Operands-F Item Tree Sides → Sides
sides_step operands = (operands.left, operands.right)

-- the tree of an expression
abbrev pub tree_of : Expr → Tree
tree_of = fold-Expr Item Tree Sides item_step tree_step sides_step

-- the tree item of an argument
abbrev pub item_of : Argument → Item
item_of = fold-Argument Item Tree Sides item_step tree_step sides_step
