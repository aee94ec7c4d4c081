-- The arguments of a call, one after another, and calls that the grammar doesn't have.
use Rattle.std.proofs.Common.{◌≡◌, ◌<◌, ◌≤◌, List, [], ◌∷◌, ◌++◌, map, length, Err, refl, ap, sym, ◌∙◌, arith}
use Rattle.std.proofs.Common.{append_assoc}
use Rattle.std.proofs.lemmas.List.{append-nil}
use Rattle.ps_value.specs.declared.value.Fault.TheVariants.{Value as NoNumber}
use Rattle.ps_tokens.specs.declared.token.Function.{Function}
use Rattle.ps_tokens.specs.declared.token.Function.TheVariants.{If}
use Rattle.ps_formula.specs.declared.expr.Argument.{Argument}
use Rattle.ps_formula.specs.Tree.{call, in_row}
use Rattle.ps_formula.specs.TreeOf.{item_of}
use Rattle.ps_eval.specs.Items.{Assignment}
use Rattle.ps_eval.specs.Number.{Number}
use Rattle.ps_eval.specs.Value.{called, number_of, items_of, items_in, values_of, value_in}

pub items_of-push : (xs : List Argument) (x : Argument) (v : Assignment) →
    items_of (in_row (map item_of (xs ++ x ∷ []))) v ≡ items_of (in_row (map item_of xs)) v ++ items_in (item_of x) v
items_of-push [] x v = append-nil (items_in (item_of x) v)
items_of-push (y ∷ xs) x v =
    ap (λ ns. items_in (item_of y) v ++ ns) (items_of-push xs x v)
    ∙ sym (append_assoc (items_in (item_of y) v) (items_of (in_row (map item_of xs)) v) (items_in (item_of x) v))

pub values_of-push : (xs : List Argument) (x : Argument) (v : Assignment) →
    values_of (in_row (map item_of (xs ++ x ∷ []))) v
    ≡ values_of (in_row (map item_of xs)) v ++ value_in (item_of x) v ∷ []
values_of-push [] x v = refl
values_of-push (y ∷ xs) x v = ap (λ ns. value_in (item_of y) v ∷ ns) (values_of-push xs x v)

-- ---- too few arguments, or too many

pub if_many : (xs : List Argument) (v : Assignment) → 4 ≤ length xs
    → Err NoNumber ≡ number_of (call If (in_row (map item_of xs))) v
if_many [] v h = absurd (omega arith)
if_many (x ∷ []) v h = absurd (omega arith)
if_many (x ∷ y ∷ []) v h = absurd (omega arith)
if_many (x ∷ y ∷ z ∷ []) v h = absurd (omega arith)
if_many (x ∷ y ∷ z ∷ w ∷ more) v h = refl

-- of a function that takes neither no argument nor one
pub fewer_than_two : (f : Function) → ((items : List Number) → Err NoNumber ≡ called f items [])
    → ((items : List Number) (m : Number) → Err NoNumber ≡ called f items (m ∷ []))
    → (xs : List Argument) (v : Assignment) → length xs < 2
    → Err NoNumber ≡ number_of (call f (in_row (map item_of xs))) v
fewer_than_two f none one [] v h = none []
fewer_than_two f none one (x ∷ []) v h = one (items_of (in_row (map item_of (x ∷ []))) v) (value_in (item_of x) v)
fewer_than_two f none one (x ∷ y ∷ more) v h = absurd (omega arith)

-- of a function that takes no three arguments and no more
pub more_than_two : (f : Function)
    → ((items values : List Number) (m n k : Number) → Err NoNumber ≡ called f items (m ∷ n ∷ k ∷ values))
    → (xs : List Argument) (v : Assignment) → 3 ≤ length xs
    → Err NoNumber ≡ number_of (call f (in_row (map item_of xs))) v
more_than_two f three [] v h = absurd (omega arith)
more_than_two f three (x ∷ []) v h = absurd (omega arith)
more_than_two f three (x ∷ y ∷ []) v h = absurd (omega arith)
more_than_two f three (x ∷ y ∷ z ∷ more) v h =
    three (items_of (in_row (map item_of (x ∷ y ∷ z ∷ more))) v) (values_of (in_row (map item_of more)) v)
    (value_in (item_of x) v) (value_in (item_of y) v) (value_in (item_of z) v)

-- of a function that takes no two arguments and no more
pub more_than_one : (f : Function)
    → ((items values : List Number) (m n : Number) → Err NoNumber ≡ called f items (m ∷ n ∷ values))
    → (xs : List Argument) (v : Assignment) → 2 ≤ length xs
    → Err NoNumber ≡ number_of (call f (in_row (map item_of xs))) v
more_than_one f two [] v h = absurd (omega arith)
more_than_one f two (x ∷ []) v h = absurd (omega arith)
more_than_one f two (x ∷ y ∷ more) v h =
    two (items_of (in_row (map item_of (x ∷ y ∷ more))) v) (values_of (in_row (map item_of more)) v)
    (value_in (item_of x) v) (value_in (item_of y) v)

-- of a function that takes no argument
pub more_than_none : (f g : Function) → f ≡ g
    → ((items values : List Number) (m : Number) → Err NoNumber ≡ called g items (m ∷ values))
    → (xs : List Argument) (v : Assignment) → 1 ≤ length xs
    → Err NoNumber ≡ number_of (call f (in_row (map item_of xs))) v
more_than_none f g same some [] v h = absurd (omega arith)
more_than_none f g same some (x ∷ more) v h =
    some (items_of (in_row (map item_of (x ∷ more))) v) (values_of (in_row (map item_of more)) v)
    (value_in (item_of x) v)
    ∙ ap (λ e. number_of (call e (in_row (map item_of (x ∷ more)))) v) (sym same)
