-- What a formula stores beside its tree: its canonical text, which has that tree, and its references as rectangles.
use Rattle.std.specs.Prelude.{ℕ, ◌≡◌, ◌≤◌, List, [], length}
use Rattle.ps_grid.specs.Rectangle.{Area}
use Rattle.ps_formula.specs.Tree.{Tree}
use Rattle.ps_formula.specs.Canonical.{canon}
use Rattle.ps_formula.specs.References.{rects_of}
use Rattle.ps_formula.specs.Formula.{HasTree}
use Rattle.ps_formula.specs.declared.formula.TheConstants.{LONGEST_TEXT}
use Rattle.ps_formula.specs.declared.rects.Rects.{Rects}
use Rattle.ps_formula.specs.declared.rects.Rects.TheVariants.{Empty, One, Two, Three, Many}

-- the rectangles as one list
abbrev pub in_line : Rects → List Area
in_line Empty = []
in_line (One rects) = rects
in_line (Two rects) = rects
in_line (Three rects) = rects
in_line (Many rects) = rects.items

pub record FitTogether (tree : Tree) (text : List ℕ) (rects : List Area) : Type 0 where
  pub canonical : text ≡ canon tree
  pub has_tree : HasTree text tree
  pub fits : length text ≤ LONGEST_TEXT
  pub covered : rects ≡ rects_of tree
