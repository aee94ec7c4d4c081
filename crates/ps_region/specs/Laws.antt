-- Laws of the region of a change.
use Rattle.std.specs.Prelude.{◌≡◌, ◌↔◌, ℕ, false, List, nat_eq}
use Rattle.std.specs.List.{list_any}
use Rattle.ps_grid.specs.Chains.{References, IsCyclic, InRegion}

-- the references before and after a change differ at touched cells alone
abbrev pub DifferAtTouched : References → References → List ℕ → Type 0
DifferAtTouched old new touched = (c d : ℕ) → list_any (nat_eq c) touched ≡ false → old c d ≡ new c d

abbrev pub SameRegion : Type 0
SameRegion = (old new : References) (touched : List ℕ) → DifferAtTouched old new touched
    → (c : ℕ) → InRegion old touched c ↔ InRegion new touched c

abbrev pub SameCyclicOutside : Type 0
SameCyclicOutside = (old new : References) (touched : List ℕ) → DifferAtTouched old new touched
    → (c : ℕ) → (InRegion new touched c → ⊥) → IsCyclic old c ↔ IsCyclic new c
