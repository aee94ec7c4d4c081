-- The value of a formula depends on the cells of its references alone.
use Rattle.std.proofs.Common.{◌≡◌, ℕ, Bool, true, false, cond, List, [], ◌∷◌, ◌++◌, refl, ap, ap₂}
use Rattle.std.specs.List.{filter, flat_map}
use Rattle.std.proofs.lemmas.Bool.{or_left, or_right, eq-eqb}
use Rattle.ps_grid.specs.Rectangle.{is_inside, cells_of}
use Rattle.ps_formula.specs.Tree.{Tree, Item, Items, number, reference, signed, joined, group, call, expression}
use Rattle.ps_formula.specs.Tree.{range, no_items, item_and}
use Rattle.ps_formula.specs.References.{mentions, mentions_among, mentions_in}
use Rattle.ps_eval.specs.Number.{prefixed, operation, on_one, on_both}
use Rattle.ps_eval.specs.Items.{Assignment, single, cell_items}
use Rattle.ps_eval.specs.Value.{number_of, items_of, items_in, values_of, value_in, called, shown_as}
use Rattle.ps_eval.specs.Laws.{DependsOnReferencesAlone}

-- two assignments give a cell the same value wherever the test holds
abbrev pub AgreeWhere : (ℕ → Bool) → Assignment → Assignment → Type 0
AgreeWhere test v w = (c : ℕ) → test c ≡ true → v c ≡ w c

cells_agree : (test : ℕ → Bool) (cells : List ℕ) (v w : Assignment) → AgreeWhere test v w →
    flat_map (λ c. cell_items (v c)) (filter test cells) ≡ flat_map (λ c. cell_items (w c)) (filter test cells)
cells_agree test [] v w h = refl
cells_agree test (c ∷ cells) v w h =
    elim (test c) as (λ b. test c ≡ b
    → flat_map (λ c. cell_items (v c)) (cond b (c ∷ filter test cells) (filter test cells)) ≡ flat_map
    (λ c. cell_items (w c)) (cond b (c ∷ filter test cells) (filter test cells))) [
      | true ↦ λ is. ap₂ ◌++◌ (ap cell_items (h c is)) (cells_agree test cells v w h)
      | false ↦ λ is. cells_agree test cells v w h
    ] refl

mutual
  pub number_of-agrees : (t : Tree) (v w : Assignment) → AgreeWhere (mentions t) v w → number_of t v ≡ number_of t w
  number_of-agrees (number n) v w h = refl
  number_of-agrees (reference c) v w h = ap single (h c (eq-eqb c c refl))
  number_of-agrees (signed s a) v w h = ap (on_one (prefixed s)) (number_of-agrees a v w h)
  number_of-agrees (joined a o b) v w h =
      ap₂ (on_both (operation o)) (number_of-agrees a v w (λ c m. h c (or_left (mentions a c) (mentions b c) m)))
      (number_of-agrees b v w (λ c m. h c (or_right (mentions a c) (mentions b c) m)))
  number_of-agrees (group a) v w h = number_of-agrees a v w h
  number_of-agrees (call f args) v w h = ap₂ (called f) (items_of-agrees args v w h) (values_of-agrees args v w h)

  items_of-agrees : (args : Items) (v w : Assignment) → AgreeWhere (mentions_among args) v w
      → items_of args v ≡ items_of args w
  items_of-agrees no_items v w h = refl
  items_of-agrees (item_and arg args) v w h =
      ap₂ ◌++◌ (items_in-agrees arg v w (λ c m. h c (or_left (mentions_in arg c) (mentions_among args c) m)))
      (items_of-agrees args v w (λ c m. h c (or_right (mentions_in arg c) (mentions_among args c) m)))

  items_in-agrees : (arg : Item) (v w : Assignment) → AgreeWhere (mentions_in arg) v w
      → items_in arg v ≡ items_in arg w
  items_in-agrees (expression a) v w h = alone_agrees a v w h (number_of-agrees a v w h)
  items_in-agrees (range a) v w h = cells_agree (is_inside a) (cells_of a) v w h

  values_of-agrees : (args : Items) (v w : Assignment) → AgreeWhere (mentions_among args) v w
      → values_of args v ≡ values_of args w
  values_of-agrees no_items v w h = refl
  values_of-agrees (item_and arg args) v w h =
      ap₂ ◌∷◌ (value_in-agrees arg v w (λ c m. h c (or_left (mentions_in arg c) (mentions_among args c) m)))
      (values_of-agrees args v w (λ c m. h c (or_right (mentions_in arg c) (mentions_among args c) m)))

  value_in-agrees : (arg : Item) (v w : Assignment) → AgreeWhere (mentions_in arg) v w
      → value_in arg v ≡ value_in arg w
  value_in-agrees (expression a) v w h = number_of-agrees a v w h
  value_in-agrees (range a) v w h = refl

  alone_agrees : (a : Tree) (v w : Assignment) → AgreeWhere (mentions a) v w → number_of a v ≡ number_of a w →
      items_in (expression a) v ≡ items_in (expression a) w
  alone_agrees (reference c) v w h e = ap cell_items (h c (eq-eqb c c refl))
  alone_agrees (number n) v w h e = ap (λ x. x ∷ []) e
  alone_agrees (signed s a) v w h e = ap (λ x. x ∷ []) e
  alone_agrees (joined a o b) v w h e = ap (λ x. x ∷ []) e
  alone_agrees (group a) v w h e = ap (λ x. x ∷ []) e
  alone_agrees (call f args) v w h e = ap (λ x. x ∷ []) e

pub ev-agrees : DependsOnReferencesAlone
ev-agrees t v w h = ap shown_as (number_of-agrees t v w h)
