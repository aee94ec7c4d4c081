-- The tokens of a tree and its canonical text: `=`, and the canonical spelling of each token, one after another.
use Rattle.std.specs.Prelude.{ℕ, List, [], ◌∷◌, ◌++◌}
use Rattle.ps_tokens.specs.declared.token.Operator.{Operator}
use Rattle.ps_tokens.specs.declared.token.Operator.TheVariants.{Plus as plus_sign, Minus as minus_sign}
use Rattle.ps_tokens.specs.declared.token.Token.{Token}
use Rattle.ps_tokens.specs.declared.token.Token.TheVariants.{Numeral, Reference, Range, Name, Symbol, Open, Close}
use Rattle.ps_tokens.specs.declared.token.Token.TheVariants.{Separator}
use Rattle.ps_tokens.specs.Text.{tokens_text}
use Rattle.ps_formula.specs.declared.expr.Sign.{Sign}
use Rattle.ps_formula.specs.declared.expr.Sign.TheVariants.{Plus, Minus}
use Rattle.ps_formula.specs.Tree.{Tree, Item, Items, number, reference, signed, joined, group, call, expression}
use Rattle.ps_formula.specs.Tree.{range, no_items, item_and}

-- a sign is written as the operator of its name
abbrev pub symbol_of : Sign → Operator
symbol_of Plus = plus_sign
symbol_of Minus = minus_sign

abbrev mutual
  pub tokens_of : Tree → List Token
  tokens_of (number z) = Numeral z ∷ []
  tokens_of (reference c) = Reference c ∷ []
  tokens_of (signed s a) = Symbol (symbol_of s) ∷ tokens_of a
  tokens_of (joined a o b) = tokens_of a ++ (Symbol o ∷ tokens_of b)
  tokens_of (group a) = Open ∷ tokens_of a ++ (Close ∷ [])
  tokens_of (call f is) = Name f ∷ Open ∷ tokens_of_items is

  -- the arguments with the separators between them and the parenthesis after them
  pub tokens_of_items : Items → List Token
  tokens_of_items no_items = Close ∷ []
  tokens_of_items (item_and i is) = tokens_of_item i ++ tokens_after_item is

  -- what stands after an argument: the parenthesis, or a separator and the next argument
  pub tokens_after_item : Items → List Token
  tokens_after_item no_items = Close ∷ []
  tokens_after_item (item_and i is) = Separator ∷ tokens_of_item i ++ tokens_after_item is

  pub tokens_of_item : Item → List Token
  tokens_of_item (expression a) = tokens_of a
  tokens_of_item (range r) = Range r ∷ []

abbrev pub canon : Tree → List ℕ
canon t = 61 ∷ tokens_text (tokens_of t)
