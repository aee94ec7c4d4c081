-- Chains of references, cycles, and the region of a change, over a test `refers c d`: the cell c refers to the cell d.
use Rattle.std.specs.Prelude.{◌≡◌, ◌<◌, ◌≤◌, ℕ, Bool, true, ◌⊎◌, List, [], ◌∷◌, length, nat_eq}
use Rattle.std.specs.List.{list_any, All}
use Rattle.ps_grid.specs.declared.size.TheConstants.{CELLS}

-- a test of two cells: the first refers to the second
abbrev pub References : Type 0
References = ℕ → ℕ → Bool

-- the cell is in the list
abbrev pub In : List ℕ → ℕ → Type 0
In cells c = list_any (nat_eq c) cells ≡ true

-- `c ∷ rest` is a chain: each cell in it refers to the next one
abbrev pub IsChain : References → ℕ → List ℕ → Type 0
IsChain refers c [] = Unit {0}
IsChain refers c (d ∷ rest) = (refers c d ≡ true) × IsChain refers d rest

-- the last cell of `c ∷ rest`
abbrev pub last_of : ℕ → List ℕ → ℕ
last_of c [] = c
last_of c (d ∷ rest) = last_of d rest

-- some cell stands twice in the list
abbrev pub HoldsTwice : List ℕ → Type 0
HoldsTwice [] = ⊥
HoldsTwice (c ∷ rest) = In rest c ⊎ HoldsTwice rest

-- some chain from c holds a cell twice
abbrev pub IsCyclic : References → ℕ → Type 0
IsCyclic refers c = (rest : List ℕ) × IsChain refers c rest × HoldsTwice (c ∷ rest)

-- some chain from c ends at a cell that the change touches
abbrev pub InRegion : References → List ℕ → ℕ → Type 0
InRegion refers touched c = (rest : List ℕ) × IsChain refers c rest × In touched (last_of c rest)

-- k is the greatest number of cells of a chain from c whose cells are all in `Within`
abbrev pub IsDepth : References → (ℕ → Type 0) → ℕ → ℕ → Type 0
IsDepth refers Within c k =
    ((rest : List ℕ) × IsChain refers c rest × All Within (c ∷ rest) × (length (c ∷ rest) ≡ k))
    × ((rest : List ℕ) → IsChain refers c rest → All Within (c ∷ rest) → length (c ∷ rest) ≤ k)

-- only cells with an index below n refer to others
abbrev pub OnlyBelow : ℕ → References → Type 0
OnlyBelow n refers = (c d : ℕ) → refers c d ≡ true → c < n

-- a list of more cells than the grid has holds a cell twice
abbrev pub LongListsRepeat : Type 0
LongListsRepeat = (cells : List ℕ) → All (λ c. c < CELLS) cells → CELLS < length cells → HoldsTwice cells

-- where only cells of the grid refer to others, a chain of more references than the grid has cells holds a cell twice
abbrev pub LongChainsRepeat : Type 0
LongChainsRepeat =
    (refers : References) → OnlyBelow CELLS refers
    → (c : ℕ) (rest : List ℕ) → IsChain refers c rest → CELLS < length rest → HoldsTwice (c ∷ rest)
