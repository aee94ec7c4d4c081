-- The cells that a formula refers to.
use Rattle.std.specs.Prelude.{ℕ, Bool, false, ◌||◌, ◌==◌, List, [], ◌∷◌, ◌++◌}
use Rattle.ps_grid.specs.Rectangle.{Area, is_inside, spanned}
use Rattle.ps_tokens.specs.declared.token.Token.{Token}
use Rattle.ps_tokens.specs.declared.token.Token.TheVariants.{Reference, Range}
use Rattle.ps_formula.specs.Tree.{Tree, Item, Items, number, reference, signed, joined, group, call, expression}
use Rattle.ps_formula.specs.Tree.{range, no_items, item_and}

-- whether a cell stands in a reference or a range of the tree, untaken branches of IF included
abbrev mutual
  pub mentions : Tree → ℕ → Bool
  mentions (number z) c = false
  mentions (reference d) c = d == c
  mentions (signed s a) c = mentions a c
  mentions (joined a o b) c = mentions a c || mentions b c
  mentions (group a) c = mentions a c
  mentions (call f is) c = mentions_among is c

  pub mentions_among : Items → ℕ → Bool
  mentions_among no_items c = false
  mentions_among (item_and i is) c = mentions_in i c || mentions_among is c

  pub mentions_in : Item → ℕ → Bool
  mentions_in (expression a) c = mentions a c
  mentions_in (range r) c = is_inside r c

-- the rectangle of one cell
abbrev pub one_cell : ℕ → Area
one_cell c = spanned c c

-- every reference and range of the tree as a rectangle, from left to right
abbrev mutual
  pub rects_of : Tree → List Area
  rects_of (number z) = []
  rects_of (reference c) = one_cell c ∷ []
  rects_of (signed s a) = rects_of a
  rects_of (joined a o b) = rects_of a ++ rects_of b
  rects_of (group a) = rects_of a
  rects_of (call f is) = rects_among is

  pub rects_among : Items → List Area
  rects_among no_items = []
  rects_among (item_and i is) = rects_in i ++ rects_among is

  pub rects_in : Item → List Area
  rects_in (expression a) = rects_of a
  rects_in (range r) = r ∷ []

-- the rectangle of a token that is a reference or a range
abbrev pub rects_at : Token → List Area
rects_at (Reference c) = one_cell c ∷ []
rects_at (Range r) = r ∷ []
rects_at _ = []
