-- A code of trees, by which a proof distinguishes two formulas. A tree is written as a list of marks in postfix order,
-- operands first, and a stack reads it back. Only the view of `Formula` uses it.
use Rattle.std.specs.Prelude.{ℕ, ℤ, List, [], ◌∷◌, Bool, true, false, ◌⊎◌, ◌≡◌, refl}
use Rattle.std.specs.Coded.{Coded, code_by, coded×, coded_ℕ, coded_ℤ, coded_bool, coded⊎, coded_list}
use Rattle.std.proofs.Common.{◌∙◌, inl, inr, ap}
use Rattle.ps_grid.specs.Rectangle.{Area}
use Rattle.ps_tokens.specs.declared.token.Function.{Function}
use Rattle.ps_tokens.specs.declared.token.Operator.{Operator}
use Rattle.ps_tokens.specs.contracts.token.Function as of_function
use Rattle.ps_tokens.specs.contracts.token.Operator as of_operator
use Rattle.ps_formula.specs.declared.expr.Sign.{Sign}
use Rattle.ps_formula.specs.contracts.expr.Sign as of_sign
use Rattle.ps_formula.specs.Tree.{Tree, Item, Items, number, reference, signed, joined, group, call, expression}
use Rattle.ps_formula.specs.Tree.{range, no_items, item_and}

-- one mark of the list
pub data Mark : Type 0 where
  a_number : ℤ → Mark
  a_cell : ℕ → Mark
  a_sign : Sign → Mark
  an_operator : Operator → Mark
  a_group : Mark
  a_call : Function → Mark
  an_expression : Mark
  a_range : Area → Mark
  an_end : Mark
  an_item : Mark

-- what the stack holds
pub data Part : Type 0 where
  a_tree : Tree → Part
  one_item : Item → Part
  all_items : Items → Part

-- the marks of a tree, and then `ms`
abbrev mutual
  pub marks : Tree → List Mark → List Mark
  marks (number z) ms = a_number z ∷ ms
  marks (reference c) ms = a_cell c ∷ ms
  marks (signed s a) ms = marks a (a_sign s ∷ ms)
  marks (joined a o b) ms = marks a (marks b (an_operator o ∷ ms))
  marks (group a) ms = marks a (a_group ∷ ms)
  marks (call f is) ms = marks_of_items is (a_call f ∷ ms)

  pub marks_of_item : Item → List Mark → List Mark
  marks_of_item (expression a) ms = marks a (an_expression ∷ ms)
  marks_of_item (range r) ms = a_range r ∷ ms

  pub marks_of_items : Items → List Mark → List Mark
  marks_of_items no_items ms = an_end ∷ ms
  marks_of_items (item_and i is) ms = marks_of_item i (marks_of_items is (an_item ∷ ms))

-- the stack after one more mark
abbrev pub next : Mark → List Part → List Part
next (a_number z) ps = a_tree (number z) ∷ ps
next (a_cell c) ps = a_tree (reference c) ∷ ps
next (a_sign s) (a_tree a ∷ ps) = a_tree (signed s a) ∷ ps
next (an_operator o) (a_tree b ∷ a_tree a ∷ ps) = a_tree (joined a o b) ∷ ps
next a_group (a_tree a ∷ ps) = a_tree (group a) ∷ ps
next (a_call f) (all_items is ∷ ps) = a_tree (call f is) ∷ ps
next an_expression (a_tree a ∷ ps) = one_item (expression a) ∷ ps
next (a_range r) ps = one_item (range r) ∷ ps
next an_end ps = all_items no_items ∷ ps
next an_item (all_items is ∷ one_item i ∷ ps) = all_items (item_and i is) ∷ ps
next _ ps = ps

abbrev pub stack_after : List Mark → List Part → List Part
stack_after [] ps = ps
stack_after (m ∷ ms) ps = stack_after ms (next m ps)

abbrev pub top : List Part → Tree
top (a_tree a ∷ ps) = a
top _ = reference 0

mutual
  pub after-marks : (t : Tree) (ms : List Mark) (ps : List Part)
      → stack_after (marks t ms) ps ≡ stack_after ms (a_tree t ∷ ps)
  after-marks (number z) ms ps = refl
  after-marks (reference c) ms ps = refl
  after-marks (signed s a) ms ps = after-marks a (a_sign s ∷ ms) ps
  after-marks (joined a o b) ms ps =
      after-marks a (marks b (an_operator o ∷ ms)) ps ∙ after-marks b (an_operator o ∷ ms) (a_tree a ∷ ps)
  after-marks (group a) ms ps = after-marks a (a_group ∷ ms) ps
  after-marks (call f is) ms ps = after-marks_of_items is (a_call f ∷ ms) ps

  pub after-marks_of_item : (i : Item) (ms : List Mark) (ps : List Part)
      → stack_after (marks_of_item i ms) ps ≡ stack_after ms (one_item i ∷ ps)
  after-marks_of_item (expression a) ms ps = after-marks a (an_expression ∷ ms) ps
  after-marks_of_item (range r) ms ps = refl

  pub after-marks_of_items : (is : Items) (ms : List Mark) (ps : List Part)
      → stack_after (marks_of_items is ms) ps ≡ stack_after ms (all_items is ∷ ps)
  after-marks_of_items no_items ms ps = refl
  after-marks_of_items (item_and i is) ms ps =
      after-marks_of_item i (marks_of_items is (an_item ∷ ms)) ps
      ∙ after-marks_of_items is (an_item ∷ ms) (one_item i ∷ ps)

-- what a mark carries
abbrev pub Carried : Type 0
Carried = (ℤ ⊎ ℕ) ⊎ ((Sign ⊎ Operator) ⊎ ((Function ⊎ ((ℕ × ℕ) × (ℕ × ℕ))) ⊎ (Bool ⊎ Bool)))

abbrev pub carried_by : Mark → Carried
carried_by (a_number z) = inl (inl z)
carried_by (a_cell c) = inl (inr c)
carried_by (a_sign s) = inr (inl (inl s))
carried_by (an_operator o) = inr (inl (inr o))
carried_by (a_call f) = inr (inr (inl (inl f)))
carried_by (a_range r) = inr (inr (inl (inr ((r.left, r.top), (r.width, r.height)))))
carried_by a_group = inr (inr (inr (inl true)))
carried_by an_expression = inr (inr (inr (inl false)))
carried_by an_end = inr (inr (inr (inr true)))
carried_by an_item = inr (inr (inr (inr false)))

abbrev pub mark_of : Carried → Mark
mark_of (inl (inl z)) = a_number z
mark_of (inl (inr c)) = a_cell c
mark_of (inr (inl (inl s))) = a_sign s
mark_of (inr (inl (inr o))) = an_operator o
mark_of (inr (inr (inl (inl f)))) = a_call f
mark_of (inr (inr (inl (inr r)))) = a_range (record { left = r.0.0; top = r.0.1; width = r.1.0; height = r.1.1 })
mark_of (inr (inr (inr (inl true)))) = a_group
mark_of (inr (inr (inr (inl false)))) = an_expression
mark_of (inr (inr (inr (inr true)))) = an_end
mark_of (inr (inr (inr (inr false)))) = an_item

pub mark_of-carried_by : (m : Mark) → mark_of (carried_by m) ≡ m
mark_of-carried_by (a_number z) = refl
mark_of-carried_by (a_cell c) = refl
mark_of-carried_by (a_sign s) = refl
mark_of-carried_by (an_operator o) = refl
mark_of-carried_by (a_call f) = refl
mark_of-carried_by (a_range r) = refl
mark_of-carried_by a_group = refl
mark_of-carried_by an_expression = refl
mark_of-carried_by an_end = refl
mark_of-carried_by an_item = refl

abbrev pub coded_four : Coded ((ℕ × ℕ) × (ℕ × ℕ))
coded_four = coded× (coded× coded_ℕ coded_ℕ) (coded× coded_ℕ coded_ℕ)

abbrev pub coded_carried : Coded Carried
coded_carried =
    coded⊎ (coded⊎ coded_ℤ coded_ℕ)
    (coded⊎ (coded⊎ of_sign.the_row.coded of_operator.the_row.coded)
    (coded⊎ (coded⊎ of_function.the_row.coded coded_four) (coded⊎ coded_bool coded_bool)))

abbrev pub coded_mark : Coded Mark
coded_mark = code_by Carried coded_carried carried_by mark_of mark_of-carried_by

-- the code of a tree: its marks
abbrev pub tree_code : Coded Tree
tree_code =
    code_by (List Mark) (coded_list coded_mark) (λ t. marks t []) (λ ms. top (stack_after ms []))
    (λ t. ap top (after-marks t [] []))
