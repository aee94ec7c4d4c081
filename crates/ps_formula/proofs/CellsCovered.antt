-- The rectangles of a tree cover just the cells that it mentions.
use Rattle.std.proofs.Common.{◌≡◌, ℕ, Bool, true, false, ◌||◌, nat_eq, ◌∙◌, ap, refl, arith, List, ◌++◌}
use Rattle.std.specs.List.{list_any}
use Rattle.std.proofs.lemmas.List.Folds.{list_any-append}
use Rattle.std.proofs.lemmas.Bool.Decides.{nat_tests}
use Rattle.ps_grid.specs.Rectangle.{Area, is_inside}
use Rattle.ps_formula.specs.Tree.{Tree, Item, Items, number, reference, signed, joined, group, call, expression}
use Rattle.ps_formula.specs.Tree.{range, no_items, item_and}
use Rattle.ps_formula.specs.References.{mentions, mentions_among, mentions_in, rects_of, rects_among, rects_in}
use Rattle.ps_formula.specs.References.{one_cell}

is_inside-one_cell : (d c : ℕ) → is_inside (one_cell d) c ≡ nat_eq d c
is_inside-one_cell d c = grind (arith, nat_tests)

-- whether one of the rectangles has the cell
abbrev pub is_covered : List Area → ℕ → Bool
is_covered rects c = list_any (λ r. is_inside r c) rects

is_covered-append : (rs ss : List Area) (c : ℕ) → is_covered (rs ++ ss) c ≡ (is_covered rs c || is_covered ss c)
is_covered-append rs ss c = list_any-append (λ r. is_inside r c) rs ss

or_false : (b : Bool) → (b || false) ≡ b
or_false true = refl
or_false false = refl

mutual
  pub is_covered-rects_of : (t : Tree) (c : ℕ) → is_covered (rects_of t) c ≡ mentions t c
  is_covered-rects_of (number z) c = refl
  is_covered-rects_of (reference d) c = or_false (is_inside (one_cell d) c) ∙ is_inside-one_cell d c
  is_covered-rects_of (signed s a) c = is_covered-rects_of a c
  is_covered-rects_of (joined a o b) c =
      is_covered-append (rects_of a) (rects_of b) c
      ∙ ap (λ x. x || is_covered (rects_of b) c) (is_covered-rects_of a c)
      ∙ ap (λ x. mentions a c || x) (is_covered-rects_of b c)
  is_covered-rects_of (group a) c = is_covered-rects_of a c
  is_covered-rects_of (call f is) c = is_covered-rects_among is c

  is_covered-rects_among : (is : Items) (c : ℕ) → is_covered (rects_among is) c ≡ mentions_among is c
  is_covered-rects_among no_items c = refl
  is_covered-rects_among (item_and i is) c =
      is_covered-append (rects_in i) (rects_among is) c
      ∙ ap (λ x. x || is_covered (rects_among is) c) (is_covered-rects_in i c)
      ∙ ap (λ x. mentions_in i c || x) (is_covered-rects_among is c)

  is_covered-rects_in : (i : Item) (c : ℕ) → is_covered (rects_in i) c ≡ mentions_in i c
  is_covered-rects_in (expression a) c = is_covered-rects_of a c
  is_covered-rects_in (range r) c = or_false (is_inside r c)
