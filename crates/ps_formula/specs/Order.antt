-- The order of formulas: by the bytes of their canonical texts. Two trees that no text has may share a canonical
-- text, and only such a tie is broken, by numbers that give the tree back; so no two trees are tied.
use Rattle.std.specs.Prelude.{◌≡◌, ℕ, Bool, List, [], ◌∷◌}
use Rattle.std.specs.Cmp.Lexicographic.{slice_cmp}
use Rattle.std.specs.Ordering.{eq_by_cmp, nat_cmp, on, then_cmp}
use Rattle.std.specs.declared.cmp.Ordering.{Ordering}
use base.Stored.{Gv, gnil, gnum, gcons}
use Rattle.ps_formula.specs.Canonical.{canon}
use Rattle.ps_formula.specs.Formula.{HasTree}
use Rattle.ps_formula.specs.Tree.{Tree}
use Rattle.ps_formula.specs.TreeCode.{tree_code}

-- the numbers of a code, and then `ns`
abbrev pub numbers_of : Gv → List ℕ → List ℕ
numbers_of gnil ns = 0 ∷ ns
numbers_of (gnum n) ns = 1 ∷ n ∷ ns
numbers_of (gcons a b) ns = numbers_of a (numbers_of b (2 ∷ ns))

-- the numbers of a tree
unfoldable pub tree_numbers : Tree → List ℕ
tree_numbers t = numbers_of (tree_code.code t) []

unfoldable pub tree_cmp : Tree → Tree → Ordering
tree_cmp = then_cmp (on canon (slice_cmp nat_cmp)) (on tree_numbers (slice_cmp nat_cmp))

abbrev pub tree_eq : Tree → Tree → Bool
tree_eq = eq_by_cmp tree_cmp

-- between trees that texts have, the order is that of their canonical texts
abbrev pub OrderedByText : Type 0
OrderedByText =
    (t u : Tree) → HasTree (canon t) t → HasTree (canon u) u → tree_cmp t u ≡ slice_cmp nat_cmp (canon t) (canon u)
