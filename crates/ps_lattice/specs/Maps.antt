-- Joins of values that may be missing, and of finite maps, which are joined key by key.
use Rattle.std.specs.Prelude.{List, [], ◌∷◌, Option, Some, None}
use Rattle.std.specs.declared.cmp.Ordering.{Ordering}
use Rattle.std.specs.FinMap as map

-- the join of two values that may be missing; a missing one adds nothing
abbrev pub both_of : {X : Type 0} → (X → X → X) → Option X → Option X → Option X
both_of f None y = y
both_of f (Some x) None = Some x
both_of f (Some x) (Some y) = Some (f x y)

-- a value joined with what a map holds at its key, which may be missing
abbrev pub joined_with_held : {X : Type 0} → (X → X → X) → Option X → X → X
joined_with_held f None y = y
joined_with_held f (Some x) y = f x y

-- m with each entry of the list joined in: its key holds its value joined with what m holds there
abbrev pub with_entries : {K X : Type 0} {R : K → K → Ordering} → (X → X → X) → map.FinMap R X → List (K × X)
    → map.FinMap R X
with_entries f m [] = m
with_entries f m (e ∷ es) = map.insert (with_entries f m es) e.0 (joined_with_held f (map.get m e.0) e.1)

-- the join of two maps: at each key the join of both values there
unfoldable pub joined_maps : {K X : Type 0} {R : K → K → Ordering} → (X → X → X) → map.FinMap R X → map.FinMap R X
    → map.FinMap R X
joined_maps f m n = with_entries f m (map.entries n)
