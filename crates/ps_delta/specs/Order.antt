-- Cells in order, one by one.
use Rattle.std.specs.Prelude.{ℕ, ◌+◌, ◌<◌, ◌≤◌, List, [], ◌∷◌}
use Rattle.std.specs.List.{AllByRecursion}

-- the cells ascend from n on
abbrev pub Rising : ℕ → List ℕ → Type 0
Rising n [] = Unit {0}
Rising n (c ∷ cs) = (n ≤ c) × Rising (c + 1) cs

-- each cell is below n
abbrev pub Under : ℕ → List ℕ → Type 0
Under n cs = AllByRecursion (λ c. c < n) cs
