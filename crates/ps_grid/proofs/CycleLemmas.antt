-- Laws of cyclic cells.
use Rattle.std.proofs.Common.{◌≡◌, ℕ, suc, zero, ◌<◌, ◌≤◌, true, ◌⊎◌, inl, inr, List, [], ◌∷◌, length, refl, ap}
use Rattle.std.proofs.Common.{arith, ⊎_elim, subst}
use Rattle.std.proofs.lemmas.Grind.{common_steps}
use Rattle.std.proofs.lemmas.Bool.{cases_lt}
use Rattle.std.proofs.lemmas.List.Elements.{All-nil, All-cons}
use Rattle.std.specs.List.{All}
use Rattle.ps_grid.specs.Chains.{References, In, IsChain, HoldsTwice, IsCyclic, OnlyBelow}
use Rattle.ps_grid.proofs.ChainLemmas.{In-one, In-self, In-more, In-cases, long_chain_repeats}

-- a cell that refers to a cyclic one is cyclic
pub IsCyclic-step : (refers : References) (c d : ℕ) → refers c d ≡ true → IsCyclic refers d → IsCyclic refers c
IsCyclic-step refers c d r h = (d ∷ h.0, (r, h.1), inr h.2)

-- a chain from d that meets c, which refers to e: a chain from d goes on to e
goes_on : (refers : References) (c d e : ℕ) (rest : List ℕ)
    → IsChain refers d rest → In (d ∷ rest) c → refers c e ≡ true
    → (more : List ℕ) × IsChain refers d more × In more e
goes_on refers c d e [] ch h r =
    let same : c ≡ d = In-one c d h in (e ∷ [], (subst (λ x. refers x e ≡ true) same r, tt), In-self e [])
goes_on refers c d e (f ∷ rest) ch h r =
    ⊎_elim
    (λ same. (e ∷ [], (subst (λ x. refers x e ≡ true) same r, tt), In-self e []))
    (λ later. let m = goes_on refers c f e rest ch.1 later r in (f ∷ m.0, (ch.0, m.1), In-more e f m.0 m.2))
    (In-cases c d (f ∷ rest) h)

next_from : (refers : References) (c : ℕ) (rest : List ℕ) → IsChain refers c rest → HoldsTwice (c ∷ rest)
    → (d : ℕ) × (refers c d ≡ true) × IsCyclic refers d
next_from refers c [] ch (inl i) = absurd (grind (arith, common_steps))
next_from refers c [] ch (inr b) = absurd b
next_from refers c (d ∷ rest) ch (inr b) = (d, ch.0, (rest, ch.1, b))
next_from refers c (d ∷ rest) ch (inl i) =
    let m = goes_on refers c d d rest ch.1 i ch.0 in (d, ch.0, (m.0, m.1, inl m.2))

-- a cyclic cell refers to a cyclic one
pub IsCyclic-next : (refers : References) (c : ℕ) → IsCyclic refers c
    → (d : ℕ) × (refers c d ≡ true) × IsCyclic refers d
IsCyclic-next refers c h = next_from refers c h.0 h.1 h.2

-- so a cell that refers to no cyclic one is not cyclic
pub acyclic_above : (refers : References) (c : ℕ)
    → ((d : ℕ) → refers c d ≡ true → IsCyclic refers d → ⊥) → IsCyclic refers c → ⊥
acyclic_above refers c none h = let n = IsCyclic-next refers c h in none n.0 n.1 n.2

-- a cyclic cell is one of those that refer
pub IsCyclic-below : (refers : References) (n : ℕ) → OnlyBelow n refers → (c : ℕ) → IsCyclic refers c → c < n
IsCyclic-below refers n below c h = let d = IsCyclic-next refers c h in below c d.0 d.1

-- where each stuck cell refers to a stuck one or to a cyclic one, a walk of any length goes on or finds a cycle
walk : (refers : References) (Stuck : ℕ → Type 0)
    → ((c : ℕ) → Stuck c → (d : ℕ) × (refers c d ≡ true) × (Stuck d ⊎ IsCyclic refers d))
    → (m c : ℕ) → Stuck c
    → IsCyclic refers c ⊎ ((rest : List ℕ) × IsChain refers c rest × All Stuck (c ∷ rest) × (length rest ≡ m))
walk refers Stuck next zero c s = inr ([], tt, All-cons Stuck c [] s (All-nil Stuck), refl)
walk refers Stuck next (suc m) c s =
    let n = next c s in
    ⊎_elim
    (λ stuck. ⊎_elim
    (λ cyc. inl (IsCyclic-step refers c n.0 n.1 cyc))
    (λ w. inr (n.0 ∷ w.0, (n.1, w.1), All-cons Stuck c (n.0 ∷ w.0) s w.2, ap suc w.3))
    (walk refers Stuck next m n.0 stuck))
    (λ cyc. inl (IsCyclic-step refers c n.0 n.1 cyc))
    n.2

-- cells that each refer to one of them, or to a cyclic cell, are cyclic
pub IsCyclic-stuck : (refers : References) (n : ℕ) → OnlyBelow n refers → (Stuck : ℕ → Type 0)
    → ((c : ℕ) → Stuck c → (d : ℕ) × (refers c d ≡ true) × (Stuck d ⊎ IsCyclic refers d))
    → (c : ℕ) → Stuck c → IsCyclic refers c
IsCyclic-stuck refers n below Stuck next c s =
    ⊎_elim
    (λ cyc. cyc)
    (λ w. (w.0, w.1, long_chain_repeats refers n below c w.0 w.1 (let e = w.3 in omega arith)))
    (walk refers Stuck next (suc n) c s)

-- cells that each refer to one of them are cyclic
pub stuck_is_cyclic : (refers : References) (n : ℕ) → OnlyBelow n refers → (Stuck : ℕ → Type 0)
    → ((c : ℕ) → Stuck c → (d : ℕ) × (refers c d ≡ true) × Stuck d)
    → (c : ℕ) → Stuck c → IsCyclic refers c
stuck_is_cyclic refers n below Stuck next c s =
    IsCyclic-stuck refers n below Stuck (λ q stuck. let d = next q stuck in (d.0, d.1, inl d.2)) c s

-- a chain from a cell that is not cyclic has at most as many references as there are cells that refer
pub short_chain : (refers : References) (n : ℕ) → OnlyBelow n refers
    → (c : ℕ) → (IsCyclic refers c → ⊥) → (rest : List ℕ) → IsChain refers c rest → length rest ≤ n
short_chain refers n below c acyclic rest chain =
    ⊎_elim
    (λ long. absurd (acyclic (rest, chain, long_chain_repeats refers n below c rest chain long)))
    (λ short. omega arith)
    (cases_lt n (length rest))

induction_by_length : (refers : References) (P : ℕ → Type 0)
    → ((c : ℕ) → (IsCyclic refers c → ⊥) → ((d : ℕ) → refers c d ≡ true → P d) → P c)
    → (k c : ℕ) → (IsCyclic refers c → ⊥) → ((rest : List ℕ) → IsChain refers c rest → length rest < k) → P c
induction_by_length refers P step zero c acyclic short = absurd (let s = short [] tt in omega arith)
induction_by_length refers P step (suc k) c acyclic short =
    step c acyclic (λ d r.
    induction_by_length refers P step k d
    (λ cyc. acyclic (IsCyclic-step refers c d r cyc))
    (λ rest chain. let s = short (d ∷ rest) (r, chain) in omega arith))

-- INDUCTION: what follows for a cell from the cells that it refers to holds of each cell that is not cyclic
pub acyclic_induction : (refers : References) (n : ℕ) → OnlyBelow n refers → (P : ℕ → Type 0)
    → ((c : ℕ) → (IsCyclic refers c → ⊥) → ((d : ℕ) → refers c d ≡ true → P d) → P c)
    → (c : ℕ) → (IsCyclic refers c → ⊥) → P c
acyclic_induction refers n below P step c acyclic =
    induction_by_length refers P step (suc n) c acyclic
    (λ rest chain. let s = short_chain refers n below c acyclic rest chain in omega arith)

-- where levels fall along references, down to cells that are not cyclic, no cell with a level is cyclic
pub not_cyclic_by_level : (refers : References) (Settled : ℕ → Type 0) (level : ℕ → ℕ)
    → ((c d : ℕ) → Settled c → refers c d ≡ true → (Settled d × (level d < level c)) ⊎ (IsCyclic refers d → ⊥))
    → (k c : ℕ) → level c ≤ k → Settled c → IsCyclic refers c → ⊥
not_cyclic_by_level refers Settled level falls zero c le s cyc =
    let n = IsCyclic-next refers c cyc in
    ⊎_elim (λ p. let lt = p.1 in absurd (omega arith)) (λ out. out n.2) (falls c n.0 s n.1)
not_cyclic_by_level refers Settled level falls (suc k) c le s cyc =
    let n = IsCyclic-next refers c cyc in
    ⊎_elim
    (λ p. let lt = p.1 in not_cyclic_by_level refers Settled level falls k n.0 (omega arith) p.0 n.2)
    (λ out. out n.2)
    (falls c n.0 s n.1)
