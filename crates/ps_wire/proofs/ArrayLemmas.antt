-- Arrays as lists of their items, and what stands in them.
use Rattle.std.proofs.Common.{◌≡◌, ℕ, zero, suc, ◌+◌, ◌<◌, Bool, true, List, [], ◌∷◌, ◌++◌, length, take, get_or}
use Rattle.std.proofs.Common.{refl, sym, ap, ap₂, ◌∙◌, arith, inl, inr}
use Rattle.std.proofs.lemmas.List.{map-append, take_more}
use Rattle.std.proofs.lemmas.List.Elements.{All-head, All-tail}
use Rattle.std.proofs.lemmas.Bool.{and_parts}
use Rattle.std.specs.List.{All, list_all}
use Rattle.std.specs.Prelude.{map as each}
use Rattle.serde_json.specs.Data.{Data, array, Items, no_items, item}
use Rattle.serde_json.specs.View.{items_of, view}
use Rattle.serde_json.specs.declared.value.Value.{Value}
use Rattle.ps_grid.specs.declared.refusal.Refusal.{Refusal}
use Rattle.ps_wire.specs.Inside.{RefusedAs}
use Rattle.ps_wire.specs.Value.{array_of}

-- the items of an array
abbrev listed : Items → List Data
listed no_items = []
listed (item d ds) = d ∷ listed ds

listed-items_of : (values : List Data) → listed (items_of values) ≡ values
listed-items_of [] = refl
listed-items_of (v ∷ vs) = ap (λ rest. v ∷ rest) (listed-items_of vs)

abbrev items_in : Data → Items
items_in (array ds) = ds
items_in _ = no_items

pub array_of-injective : (v w : List Data) → array_of v ≡ array_of w → v ≡ w
array_of-injective v w e = sym (listed-items_of v) ∙ ap (λ d. listed (items_in d)) e ∙ listed-items_of w

length-each : {X Y : Type 0} (f : X → Y) (xs : List X) → length (each f xs) ≡ length xs
length-each f [] = refl
length-each f (x ∷ xs) = omega (arith, length-each f xs)

-- an array has one number of items
pub array_length : (values : List Value) (v : List Data) → array_of (each view values) ≡ array_of v
    → length values ≡ length v
array_length values v e = sym (length-each view values) ∙ ap length (array_of-injective (each view values) v e)

-- one more item is read
pub read_more : {X Y : Type 0} (f : X → Data) (g : Y → Data) (xs : List X) (i : ℕ) (d : X) (ys : List Y) (y : Y)
    → i < length xs → each f (take i xs) ≡ each g ys → f (get_or xs i d) ≡ g y
    → each f (take (i + 1) xs) ≡ each g (ys ++ y ∷ [])
read_more f g xs i d ys y within so_far here =
    ap (each f) (take_more xs i d within) ∙ map-append f (take i xs) (get_or xs i d ∷ [])
    ∙ ap₂ (λ a b. a ++ b ∷ []) so_far here ∙ sym (map-append g ys (y ∷ []))

-- where values stand for good items, each value stands for a good item
pub read_at : {X Y : Type 0} (f : X → Data) (g : Y → Data) (Good : Y → Type 0) (xs : List X) (ys : List Y) (i : ℕ)
    → (d : X) → i < length xs → each f xs ≡ each g ys → All Good ys → (y : Y) × Good y × (f (get_or xs i d) ≡ g y)
read_at f g Good [] ys i d within e good = absurd (omega arith)
read_at f g Good (x ∷ xs) [] i d within e good = absurd cc
read_at f g Good (x ∷ xs) (y ∷ ys) zero d within e good = (y, good 0 y (omega arith), cc)
read_at f g Good (x ∷ xs) (y ∷ ys) (suc i) d within e good =
    read_at f g Good xs ys i d (omega arith) (cc) (All-tail Good y ys good)

-- each item of a list passes a test that all pass
pub All-list_all : {Y : Type 0} (p : Y → Bool) (ys : List Y) → list_all p ys ≡ true → All (λ y. p y ≡ true) ys
All-list_all p [] h k d within = absurd (omega arith)
All-list_all p (y ∷ ys) h zero d within = (and_parts (p y) (list_all p ys) h).0
All-list_all p (y ∷ ys) h (suc k) d within = All-list_all p ys (and_parts (p y) (list_all p ys) h).1 k d (omega arith)

-- an array stands for no good items where one of its values stands for no good item
pub no_items_by : {Y : Type 0} (g : Y → Data) (good : Y → Bool) (values : List Value) (i : ℕ) (d : Value)
    → i < length values → ((y : Y) → good y ≡ true → view (get_or values i d) ≡ g y → ⊥)
    → (value : Data) → value ≡ array_of (each view values)
    → (ys : List Y) → list_all good ys ≡ true → value ≡ array_of (each g ys) → ⊥
no_items_by g good values i d within none value is ys well e =
    let same = array_of-injective (each view values) (each g ys) (sym is ∙ e) in
    let here = read_at view g (λ y. good y ≡ true) values ys i d within same (All-list_all good ys well) in
    none here.0 here.1 here.2

-- where equal values come from equal items, lists of equal values come from equal lists
pub map-injective : {X : Type 0} (f : X → Data) (Good : X → Type 0)
    → ((x y : X) → Good x → Good y → f x ≡ f y → x ≡ y)
    → (xs ys : List X) → All Good xs → All Good ys → each f xs ≡ each f ys → xs ≡ ys
map-injective f Good same [] [] good well e = refl
map-injective f Good same [] (y ∷ ys) good well e = absurd cc
map-injective f Good same (x ∷ xs) [] good well e = absurd cc
map-injective f Good same (x ∷ xs) (y ∷ ys) good well e =
    ap₂ (λ a b. a ∷ b) (same x y (All-head Good x xs good) (All-head Good y ys well) cc)
    (map-injective f Good same xs ys (All-tail Good x xs good) (All-tail Good y ys well) cc)

-- what follows from a reason to refuse is one too
pub refused_so : {P Q : Type 0} (r : Refusal) → (P → Q) → RefusedAs r P → RefusedAs r Q
refused_so r so (inl memory) = inl memory
refused_so r so (inr refused) = inr (refused.0, so refused.1)
