-- The order of contents: by their kinds, then numbers by number, texts by bytes and formulas in their order.
use Rattle.std.specs.Prelude.{ℕ, ℤ, pos, Bool, List, [], Option, None, Some}
use Rattle.std.specs.Cmp.Lexicographic.{slice_cmp}
use Rattle.std.specs.Option.{option_cmp}
use Rattle.std.specs.Ordering.{eq_by_cmp, int_cmp, nat_cmp, on, then_cmp}
use Rattle.std.specs.declared.cmp.Ordering.{Ordering}
use Rattle.ps_formula.specs.Order.{tree_cmp}
use Rattle.ps_formula.specs.Tree.{Tree}
use Rattle.ps_content.specs.declared.content.Content.{Content}
use Rattle.ps_content.specs.declared.content.Content.TheVariants.{Blank, Number, Text, Formula, Tally, Choice}

-- the position of a content's kind among the kinds, which ascend
abbrev pub kind_place : Content → ℕ
kind_place Blank = 0
kind_place (Number number) = 1
kind_place (Text label) = 2
kind_place (Formula tree) = 3
kind_place Tally = 4
kind_place Choice = 5

-- the number of a content, and 0 for those that are no number
abbrev pub number_in : Content → ℤ
number_in (Number number) = number
number_in _ = pos 0

-- the bytes of a text, and none for other contents
abbrev pub text_in : Content → List ℕ
text_in (Text label) = label
text_in _ = []

-- the tree of the formula that a content is
abbrev pub formula_in : Content → Option Tree
formula_in (Formula tree) = Some tree
formula_in _ = None

-- contents of one kind: by number, by bytes, in the order of formulas
abbrev pub within_kind : Content → Content → Ordering
within_kind = then_cmp (on number_in int_cmp)
    (then_cmp (on text_in (slice_cmp nat_cmp)) (on formula_in (option_cmp tree_cmp)))

unfoldable pub content_cmp : Content → Content → Ordering
content_cmp = then_cmp (on kind_place nat_cmp) within_kind

abbrev pub content_eq : Content → Content → Bool
content_eq = eq_by_cmp content_cmp
