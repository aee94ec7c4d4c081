-- Lists joined position by position.
use Rattle.std.specs.Prelude.{List, [], ◌∷◌}

-- the items past the end of the shorter list stay
unfoldable pub joined_places : {X : Type 0} → (X → X → X) → List X → List X → List X
joined_places f [] ys = ys
joined_places f (x ∷ xs) [] = x ∷ xs
joined_places f (x ∷ xs) (y ∷ ys) = f x y ∷ joined_places f xs ys
