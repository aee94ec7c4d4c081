-- The value of a formula is the fault of a cycle only where a cell that it refers to shows that fault.
use Rattle.std.proofs.Common.{◌≡◌, ℕ, Bool, true, false, cond, ◌||◌, List, [], ◌∷◌, ◌++◌, Option, Some, None}
use Rattle.std.proofs.Common.{Ok, Err, ℤ, pos, ◌+ℤ◌, ◌-ℤ◌, ◌*ℤ◌, neg_ℤ, ◌⊎◌, ⊎_elim, inl, inr, eqb, refl, ap}
use Rattle.std.specs.Prelude.{not, length, int_div, unsigned_abs, count_ones}
use Rattle.std.specs.List.{list_all, list_any, filter, flat_map}
use Rattle.std.proofs.lemmas.Bool.{or_left, or_right, eq-eqb}
use Rattle.ps_grid.specs.Rectangle.{is_inside, cells_of}
use Rattle.ps_value.specs.declared.value.Value.{Value}
use Rattle.ps_value.specs.declared.value.Value.TheVariants.{Empty, Num, Text, Choice, Err as Shows}
use Rattle.ps_value.specs.declared.value.Fault.{Fault}
use Rattle.ps_value.specs.declared.value.Fault.TheVariants.{DivZero, Num as OutOfRange, Value as NoNumber, Cycle}
use Rattle.ps_tokens.specs.declared.token.Function.{Function}
use Rattle.ps_tokens.specs.declared.token.Function.TheVariants.{Sum, Min, Max, Count, If, Mod, Quotient, Abs}
use Rattle.ps_tokens.specs.declared.token.Function.TheVariants.{And, Or, Not, True, False}
use Rattle.ps_tokens.specs.declared.token.Operator.{Operator}
use Rattle.ps_tokens.specs.declared.token.Operator.TheVariants.{Plus, Minus, Times, Equal, NotEqual, Less}
use Rattle.ps_tokens.specs.declared.token.Operator.TheVariants.{LessOrEqual, Greater, GreaterOrEqual}
use Rattle.ps_formula.specs.declared.expr.Sign.{Sign}
use Rattle.ps_formula.specs.declared.expr.Sign.TheVariants.{Plus as PlusSign, Minus as MinusSign}
use Rattle.ps_formula.specs.Tree.{Tree, Item, Items, number, reference, signed, joined, group, call, expression}
use Rattle.ps_formula.specs.Tree.{range, no_items, item_and}
use Rattle.ps_formula.specs.References.{mentions, mentions_among, mentions_in}
use Rattle.ps_eval.specs.Number.{Number, exact, in_range, truth, is_zero, modulo, floored, quotient, absolute}
use Rattle.ps_eval.specs.Number.{prefixed, operation, on_one, on_both, chosen}
use Rattle.ps_eval.specs.Items.{Assignment, single, cell_items, first_fault, unless_fault, numbers_in, total}
use Rattle.ps_eval.specs.Items.{least, greatest}
use Rattle.ps_eval.specs.Value.{number_of, items_of, items_in, values_of, value_in, called, shown_as}
use Rattle.ps_eval.specs.Laws.{CycleComesFromReferences}

abbrev IsCycle : Number → Type 0
IsCycle x = x ≡ Err Cycle

-- some number of the list is the fault of a cycle
abbrev HasCycle : List Number → Type 0
HasCycle [] = ⊥
HasCycle (x ∷ xs) = IsCycle x ⊎ HasCycle xs

-- some cell that passes the test shows the fault of a cycle
abbrev pub Shown : (ℕ → Bool) → Assignment → Type 0
Shown test v = (c : ℕ) × (test c ≡ true) × (v c ≡ Shows Cycle)

-- ---- no operation makes the fault

picked : (b : Bool) (z : ℤ) → IsCycle (cond b (Ok z) (Err OutOfRange)) → ⊥
picked true z h = cc
picked false z h = cc

exact-cycle : (z : ℤ) → IsCycle (exact z) → ⊥
exact-cycle z h = picked (in_range z) z h

divided : (b : Bool) (x : Number) → (IsCycle x → ⊥) → IsCycle (cond b (Err DivZero) x) → ⊥
divided true x no_cycle h = cc
divided false x no_cycle h = no_cycle h

prefixed-cycle : (s : Sign) (a : ℤ) → IsCycle (prefixed s a) → ⊥
prefixed-cycle PlusSign a h = cc
prefixed-cycle MinusSign a h = exact-cycle (neg_ℤ a) h

operation-cycle : (o : Operator) (a b : ℤ) → IsCycle (operation o a b) → ⊥
operation-cycle Plus a b h = exact-cycle (a +ℤ b) h
operation-cycle Minus a b h = exact-cycle (a -ℤ b) h
operation-cycle Times a b h = exact-cycle (a *ℤ b) h
operation-cycle Equal a b h = cc
operation-cycle NotEqual a b h = cc
operation-cycle Less a b h = cc
operation-cycle LessOrEqual a b h = cc
operation-cycle Greater a b h = cc
operation-cycle GreaterOrEqual a b h = cc

modulo-cycle : (a b : ℤ) → IsCycle (modulo a b) → ⊥
modulo-cycle a b h =
    divided (is_zero b) (Ok (a -ℤ b *ℤ floored a b)) (λ e. absurd (ok-cycle (a -ℤ b *ℤ floored a b) e)) h
  where
    ok-cycle : (z : ℤ) → IsCycle (Ok z) → ⊥
    ok-cycle z e = cc

quotient-cycle : (a b : ℤ) → IsCycle (quotient a b) → ⊥
quotient-cycle a b h = divided (is_zero b) (exact (int_div a b)) (exact-cycle (int_div a b)) h

absolute-cycle : (a : ℤ) → IsCycle (absolute a) → ⊥
absolute-cycle a h = exact-cycle (pos (unsigned_abs a)) h

-- ---- so it comes from an operand

from_one : (op : ℤ → Number) (x : Number) → ((a : ℤ) → IsCycle (op a) → ⊥) → IsCycle (on_one op x) → IsCycle x
from_one op (Ok a) no_cycle h = absurd (no_cycle a h)
from_one op (Err fault) no_cycle h = h

from_both : (op : ℤ → ℤ → Number) (x y : Number) → ((a b : ℤ) → IsCycle (op a b) → ⊥)
    → IsCycle (on_both op x y) → IsCycle x ⊎ IsCycle y
from_both op (Err fault) y no_cycle h = inl h
from_both op (Ok a) (Err fault) no_cycle h = inr h
from_both op (Ok a) (Ok b) no_cycle h = absurd (no_cycle a b h)

from_branch : (b : Bool) (x y : Number) → IsCycle (cond b y x) → IsCycle x ⊎ IsCycle y
from_branch true x y h = inr h
from_branch false x y h = inl h

from_chosen : (a x y : Number) → IsCycle (chosen a x y) → IsCycle a ⊎ (IsCycle x ⊎ IsCycle y)
from_chosen (Err fault) x y h = inl h
from_chosen (Ok a) x y h = inr (from_branch (is_zero a) x y h)

from_first_fault : (xs : List Number) → first_fault xs ≡ Some Cycle → HasCycle xs
from_first_fault [] h = cc
from_first_fault (Ok n ∷ xs) h = inr (from_first_fault xs h)
from_first_fault (Err fault ∷ xs) h = let e : fault ≡ Cycle = cc in inl (ap Err e)

from_items : (o : Option Fault) (x : Number) → (IsCycle x → ⊥) → IsCycle (unless_fault o x) → o ≡ Some Cycle
from_items None x no_cycle h = absurd (no_cycle h)
from_items (Some fault) x no_cycle h = let e : fault ≡ Cycle = cc in ap Some e

ok-cycle : (z : ℤ) → IsCycle (Ok z) → ⊥
ok-cycle z e = cc

items-cycle : (xs : List Number) (x : Number) → (IsCycle x → ⊥) → IsCycle (unless_fault (first_fault xs) x)
    → HasCycle xs
items-cycle xs x no_cycle h = from_first_fault xs (from_items (first_fault xs) x no_cycle h)

wrong : {P : Type 0} → IsCycle (Err NoNumber) → P
wrong h = cc

called-cycle : (f : Function) (items values : List Number) → IsCycle (called f items values)
    → HasCycle items ⊎ HasCycle values
called-cycle Sum items values h =
    inl (items-cycle items (exact (total (numbers_in items))) (exact-cycle (total (numbers_in items))) h)
called-cycle Min items values h = inl (items-cycle items _ (ok-cycle (least (numbers_in items))) h)
called-cycle Max items values h = inl (items-cycle items _ (ok-cycle (greatest (numbers_in items))) h)
called-cycle Count items values h = absurd (exact-cycle (pos (length (numbers_in items))) h)
called-cycle And items values h =
    inr (items-cycle values _ (ok-cycle (truth (list_all (λ n. not (is_zero n)) (numbers_in values)))) h)
called-cycle Or items values h =
    inr (items-cycle values _ (ok-cycle (truth (list_any (λ n. not (is_zero n)) (numbers_in values)))) h)
called-cycle If items [] h = wrong h
called-cycle If items (a ∷ []) h = wrong h
called-cycle If items (a ∷ x ∷ []) h =
    ⊎_elim inr_first (⊎_elim inr_second (λ e. absurd (ok-cycle (pos 0) e))) (from_chosen a x (Ok (pos 0)) h)
  where
    inr_first : IsCycle a → HasCycle items ⊎ HasCycle (a ∷ x ∷ [])
    inr_first e = inr (inl e)

    inr_second : IsCycle x → HasCycle items ⊎ HasCycle (a ∷ x ∷ [])
    inr_second e = inr (inr (inl e))
called-cycle If items (a ∷ x ∷ y ∷ []) h =
    ⊎_elim (λ e. inr (inl e)) (⊎_elim (λ e. inr (inr (inl e))) (λ e. inr (inr (inr (inl e))))) (from_chosen a x y h)
called-cycle If items (a ∷ x ∷ y ∷ z ∷ more) h = wrong h
called-cycle Mod items [] h = wrong h
called-cycle Mod items (x ∷ []) h = wrong h
called-cycle Mod items (x ∷ y ∷ []) h =
    ⊎_elim (λ e. inr (inl e)) (λ e. inr (inr (inl e))) (from_both modulo x y modulo-cycle h)
called-cycle Mod items (x ∷ y ∷ z ∷ more) h = wrong h
called-cycle Quotient items [] h = wrong h
called-cycle Quotient items (x ∷ []) h = wrong h
called-cycle Quotient items (x ∷ y ∷ []) h =
    ⊎_elim (λ e. inr (inl e)) (λ e. inr (inr (inl e))) (from_both quotient x y quotient-cycle h)
called-cycle Quotient items (x ∷ y ∷ z ∷ more) h = wrong h
called-cycle Abs items [] h = wrong h
called-cycle Abs items (x ∷ []) h = inr (inl (from_one absolute x absolute-cycle h))
called-cycle Abs items (x ∷ y ∷ more) h = wrong h
called-cycle Not items [] h = wrong h
called-cycle Not items (x ∷ []) h =
    inr (inl (from_one (λ n. Ok (truth (is_zero n))) x (λ n e. ok-cycle (truth (is_zero n)) e) h))
called-cycle Not items (x ∷ y ∷ more) h = wrong h
called-cycle True items [] h = absurd (ok-cycle (pos 1) h)
called-cycle True items (x ∷ more) h = wrong h
called-cycle False items [] h = absurd (ok-cycle (pos 0) h)
called-cycle False items (x ∷ more) h = wrong h

-- ---- and in the end from a cell

single-cycle : (x : Value) → IsCycle (single x) → x ≡ Shows Cycle
single-cycle Empty h = cc
single-cycle (Num n) h = cc
single-cycle (Text text) h = cc
single-cycle (Choice options) h = cc
single-cycle (Shows fault) h = let e : fault ≡ Cycle = cc in ap Shows e

cell_items-cycle : (x : Value) → HasCycle (cell_items x) → x ≡ Shows Cycle
cell_items-cycle Empty h = absurd h
cell_items-cycle (Num n) h = ⊎_elim (λ e. absurd (ok-cycle n e)) absurd h
cell_items-cycle (Text text) h = absurd h
cell_items-cycle (Choice options) h = ⊎_elim (λ e. absurd (ok-cycle (pos (count_ones options)) e)) absurd h
cell_items-cycle (Shows fault) h = ⊎_elim (single-cycle (Shows fault)) absurd h

parts-cycle : (xs ys : List Number) → HasCycle (xs ++ ys) → HasCycle xs ⊎ HasCycle ys
parts-cycle [] ys h = inr h
parts-cycle (x ∷ xs) ys h = ⊎_elim (λ e. inl (inl e)) (λ r. ⊎_elim (λ e. inl (inr e)) inr (parts-cycle xs ys r)) h

cells-cycle : (test : ℕ → Bool) (cells : List ℕ) (v : Assignment)
    → HasCycle (flat_map (λ c. cell_items (v c)) (filter test cells)) → Shown test v
cells-cycle test [] v h = absurd h
cells-cycle test (c ∷ cells) v h =
    elim (test c) as (λ b. test c ≡ b
    → HasCycle (flat_map (λ c. cell_items (v c)) (cond b (c ∷ filter test cells) (filter test cells)))
    → Shown test v) [
      | true ↦ λ is e. ⊎_elim (λ x. (
        c,
        is,
        cell_items-cycle (v c) x,
      )) (cells-cycle test cells v) (parts-cycle (cell_items (v c)) (flat_map
          (λ c. cell_items (v c)) (filter test cells)) e)
      | false ↦ λ is e. cells-cycle test cells v e
    ] refl h

left_shown : (f g : ℕ → Bool) (v : Assignment) → Shown f v → Shown (λ c. f c || g c) v
left_shown f g v s = (s.0, or_left (f s.0) (g s.0) s.1, s.2)

right_shown : (f g : ℕ → Bool) (v : Assignment) → Shown g v → Shown (λ c. f c || g c) v
right_shown f g v s = (s.0, or_right (f s.0) (g s.0) s.1, s.2)

cell_shown : (c : ℕ) (v : Assignment) → v c ≡ Shows Cycle → Shown (λ d. eqb c d) v
cell_shown c v e = (c, eq-eqb c c refl, e)

mutual
  pub number_of-cycle : (t : Tree) (v : Assignment) → IsCycle (number_of t v) → Shown (mentions t) v
  number_of-cycle (number n) v h = absurd (ok-cycle n h)
  number_of-cycle (reference c) v h = cell_shown c v (single-cycle (v c) h)
  number_of-cycle (signed s a) v h = number_of-cycle a v (from_one (prefixed s) (number_of a v) (prefixed-cycle s) h)
  number_of-cycle (joined a o b) v h =
      ⊎_elim (λ e. left_shown (mentions a) (mentions b) v (number_of-cycle a v e))
      (λ e. right_shown (mentions a) (mentions b) v (number_of-cycle b v e))
      (from_both (operation o) (number_of a v) (number_of b v) (operation-cycle o) h)
  number_of-cycle (group a) v h = number_of-cycle a v h
  number_of-cycle (call f args) v h =
      ⊎_elim (items_of-cycle args v) (values_of-cycle args v) (called-cycle f (items_of args v) (values_of args v) h)

  items_of-cycle : (args : Items) (v : Assignment) → HasCycle (items_of args v) → Shown (mentions_among args) v
  items_of-cycle no_items v h = absurd h
  items_of-cycle (item_and arg args) v h =
      ⊎_elim (λ e. left_shown (mentions_in arg) (mentions_among args) v (items_in-cycle arg v e))
      (λ e. right_shown (mentions_in arg) (mentions_among args) v (items_of-cycle args v e))
      (parts-cycle (items_in arg v) (items_of args v) h)

  items_in-cycle : (arg : Item) (v : Assignment) → HasCycle (items_in arg v) → Shown (mentions_in arg) v
  items_in-cycle (expression a) v h = alone-cycle a v (number_of-cycle a v) h
  items_in-cycle (range a) v h = cells-cycle (is_inside a) (cells_of a) v h

  values_of-cycle : (args : Items) (v : Assignment) → HasCycle (values_of args v) → Shown (mentions_among args) v
  values_of-cycle no_items v h = absurd h
  values_of-cycle (item_and arg args) v h =
      ⊎_elim (λ e. left_shown (mentions_in arg) (mentions_among args) v (value_in-cycle arg v e))
      (λ e. right_shown (mentions_in arg) (mentions_among args) v (values_of-cycle args v e)) h

  value_in-cycle : (arg : Item) (v : Assignment) → IsCycle (value_in arg v) → Shown (mentions_in arg) v
  value_in-cycle (expression a) v h = number_of-cycle a v h
  value_in-cycle (range a) v h = wrong h

  alone-cycle : (a : Tree) (v : Assignment) → (IsCycle (number_of a v) → Shown (mentions a) v)
      → HasCycle (items_in (expression a) v) → Shown (mentions a) v
  alone-cycle (reference c) v f h = cell_shown c v (cell_items-cycle (v c) h)
  alone-cycle (number n) v f h = ⊎_elim f absurd h
  alone-cycle (signed s a) v f h = ⊎_elim f absurd h
  alone-cycle (joined a o b) v f h = ⊎_elim f absurd h
  alone-cycle (group a) v f h = ⊎_elim f absurd h
  alone-cycle (call g args) v f h = ⊎_elim f absurd h

shown-cycle : (x : Number) → shown_as x ≡ Shows Cycle → IsCycle x
shown-cycle (Ok n) h = cc
shown-cycle (Err fault) h = let e : fault ≡ Cycle = cc in ap Err e

pub ev-cycle : CycleComesFromReferences
ev-cycle t v h = number_of-cycle t v (shown-cycle (number_of t v) h)
