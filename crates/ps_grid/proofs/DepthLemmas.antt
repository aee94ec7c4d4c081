-- The depth of a cell: the greatest number of cells of a chain from it.
use Rattle.std.proofs.Common.{◌≡◌, ℕ, suc, zero, ◌<◌, ◌≤◌, true, List, [], ◌∷◌, length, refl, ap, arith}
use Rattle.std.specs.List.{All}
use Rattle.std.proofs.lemmas.List.Elements.{All-nil, All-cons, All-head, All-tail}
use Rattle.ps_grid.specs.Chains.{References, IsChain, IsDepth}

-- no chain of settled cells is longer than the level
chain_le_level : (refers : References) (Settled : ℕ → Type 0) (level : ℕ → ℕ)
    → ((c : ℕ) → Settled c → 0 < level c)
    → ((c d : ℕ) → Settled c → Settled d → refers c d ≡ true → level d < level c)
    → (c : ℕ) (rest : List ℕ) → IsChain refers c rest → All Settled (c ∷ rest) → length (c ∷ rest) ≤ level c
chain_le_level refers Settled level some falls c [] ch all = let h = some c (All-head Settled c [] all) in omega arith
chain_le_level refers Settled level some falls c (d ∷ rest) ch all =
    let tail : All Settled (d ∷ rest) = All-tail Settled c (d ∷ rest) all in
    let ih = chain_le_level refers Settled level some falls d rest ch.1 tail in
    let lt = falls c d (All-head Settled c (d ∷ rest) all) (All-head Settled d rest tail) ch.0 in omega arith

-- and some chain of settled cells is as long as the level
chain_of_level : (refers : References) (Settled : ℕ → Type 0) (level : ℕ → ℕ)
    → ((c k : ℕ) → Settled c → level c ≡ suc (suc k) → (d : ℕ) × (refers c d ≡ true) × Settled d × (level d ≡ suc k))
    → (k c : ℕ) → Settled c → level c ≡ suc k
    → (rest : List ℕ) × IsChain refers c rest × All Settled (c ∷ rest) × (length (c ∷ rest) ≡ suc k)
chain_of_level refers Settled level next zero c s is = ([], tt, All-cons Settled c [] s (All-nil Settled), refl)
chain_of_level refers Settled level next (suc k) c s is =
    let n = next c k s is in
    let w = chain_of_level refers Settled level next k n.0 n.2 n.3 in
    (n.0 ∷ w.0, (n.1, w.1), All-cons Settled c (n.0 ∷ w.0) s w.2, ap suc w.3)

-- levels above 0 that fall along references, each by one somewhere, are depths
pub IsDepth-level : (refers : References) (Settled : ℕ → Type 0) (level : ℕ → ℕ)
    → ((c : ℕ) → Settled c → 0 < level c)
    → ((c d : ℕ) → Settled c → Settled d → refers c d ≡ true → level d < level c)
    → ((c k : ℕ) → Settled c → level c ≡ suc (suc k) → (d : ℕ) × (refers c d ≡ true) × Settled d × (level d ≡ suc k))
    → (k c : ℕ) → Settled c → level c ≡ suc k → IsDepth refers Settled c (suc k)
IsDepth-level refers Settled level some falls next k c s is = (
  chain_of_level refers Settled level next k c s is,
  λ rest ch all. let le = chain_le_level refers Settled level some falls c rest ch all in omega arith,
)

-- a cell has one depth
pub IsDepth-unique : (refers : References) (Within : ℕ → Type 0) (c k m : ℕ)
    → IsDepth refers Within c k → IsDepth refers Within c m → k ≡ m
IsDepth-unique refers Within c k m a b =
    let up = b.1 a.0.0 a.0.1 a.0.2 in
    let down = a.1 b.0.0 b.0.1 b.0.2 in
    let ka = a.0.3 in
    let mb = b.0.3 in omega arith
