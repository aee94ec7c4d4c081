-- What cells are worth before and after a change, by any evaluation of their formulas.
use Rattle.std.specs.Prelude.{◌≡◌, ◌⊎◌, ℕ, Bool, true, false, List, nat_eq}
use Rattle.std.specs.List.{list_any}
use Rattle.ps_grid.specs.Chains.{References, In, IsCyclic, InRegion, OnlyBelow}
use Rattle.ps_grid.specs.declared.size.TheConstants.{CELLS}
use Rattle.ps_region.specs.Found.{IsFrame}
use Rattle.ps_region.specs.Laws.{DifferAtTouched}

-- the value of a cell by its formula, given the value of each cell
abbrev pub Evaluation : Type 0 → Type 0
Evaluation V = ℕ → (ℕ → V) → V

-- a cyclic cell is worth the fault of a cycle, and each other cell what its formula is worth
pub record IsSettled (refers : References) (V : Type 0) (eval : Evaluation V) (fault : V) (v : ℕ → V) : Type 0 where
  pub at_cycle : (c : ℕ) → IsCyclic refers c → v c ≡ fault
  pub at_other : (c : ℕ) → (IsCyclic refers c → ⊥) → v c ≡ eval c v

-- A change of formulas at touched cells alone, with settled values v before and w after it. What a formula is worth
-- depends on the cells that it refers to alone, and is the fault of a cycle only where one of these is worth it.
pub record IsChange (V : Type 0) (old new : References) (touched : List ℕ) (before after : Evaluation V) (fault : V)
    (v w : ℕ → V) : Type 0 where
  pub old_in_grid : OnlyBelow CELLS old
  pub new_in_grid : OnlyBelow CELLS new
  pub differs : DifferAtTouched old new touched
  pub stays : (c : ℕ) → list_any (nat_eq c) touched ≡ false → (x y : ℕ → V)
      → ((d : ℕ) → new c d ≡ true → x d ≡ y d) → before c x ≡ after c y
  pub cycle_comes : (c : ℕ) → after c w ≡ fault → (d : ℕ) × (new c d ≡ true) × (w d ≡ fault)
  pub settled_before : IsSettled old V before fault v
  pub settled_after : IsSettled new V after fault w

-- a cell of the frame that is touched, or refers to a cell whose value changes
abbrev pub IsWork : References → (ℕ → Bool) → List ℕ → (V : Type 0) → (ℕ → V) → (ℕ → V) → ℕ → Type 0
IsWork refers formula touched V v w c =
    IsFrame refers formula touched c
    × (In touched c ⊎ ((d : ℕ) × (refers c d ≡ true) × (w d ≡ v d → ⊥)))

-- a cell outside the region keeps its value
abbrev pub OutsideKeeps : Type 0 → Type 0
OutsideKeeps V =
    (old new : References) (touched : List ℕ) (before after : Evaluation V) (fault : V) (v w : ℕ → V)
    → IsChange V old new touched before after fault v w
    → (c : ℕ) → (InRegion new touched c → ⊥) → w c ≡ v c

-- a cell of the frame that is no work keeps its value, if it is decidable whether two values are equal
abbrev pub QuietKeeps : Type 0 → Type 0
QuietKeeps V =
    ((x y : V) → (x ≡ y) ⊎ (x ≡ y → ⊥))
    → (old new : References) (touched : List ℕ) (before after : Evaluation V) (fault : V) (v w : ℕ → V)
    → IsChange V old new touched before after fault v w
    → (formula : ℕ → Bool) (c : ℕ) → IsFrame new formula touched c
    → (IsWork new formula touched V v w c → ⊥) → w c ≡ v c
