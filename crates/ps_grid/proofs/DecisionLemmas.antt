-- Whether a cell is cyclic can be decided: where only cells below n refer, a walk of n references decides.
use Rattle.std.proofs.Common.{◌≡◌, ℕ, suc, zero, ◌<◌, Bool, true, false, ◌&&◌, ◌||◌, ◌⊎◌, inl, inr}
use Rattle.std.proofs.Common.{List, [], ◌∷◌, length, nat_lt, refl, subst, arith, ⊎_elim}
use Rattle.std.proofs.lemmas.Grind.{common_steps}
use Rattle.std.proofs.lemmas.Bool.{cases_eq}
use Rattle.std.proofs.lemmas.List.Elements.{All-nil, All-cons}
use Rattle.std.specs.List.{All}
use Rattle.ps_grid.specs.Chains.{References, IsChain, IsCyclic, OnlyBelow}
use Rattle.ps_grid.proofs.ChainLemmas.{bool_cases, pigeonhole}
use Rattle.ps_grid.proofs.CycleLemmas.{IsCyclic-next, IsCyclic-below}

-- some number below n passes
unfoldable any_below : (ℕ → Bool) → ℕ → Bool
any_below p zero = false
any_below p (suc n) = any_below p n || p n

some_below : (p : ℕ → Bool) (n : ℕ) → any_below p n ≡ true → (d : ℕ) × (d < n) × (p d ≡ true)
unfolding any_below
some_below p zero h = absurd (let f : false ≡ true = h in cc)
some_below p (suc n) h =
    ⊎_elim
    (λ (last : p n ≡ true). (n, omega arith, last))
    (λ (other : p n ≡ false).
    let before : any_below p n ≡ true = grind (arith, common_steps) in
    let s = some_below p n before in
    let lt = s.1 in (s.0, omega arith, s.2))
    (bool_cases (p n))

below_some : (p : ℕ → Bool) (n d : ℕ) → d < n → p d ≡ true → any_below p n ≡ true
unfolding any_below
below_some p zero d lt h = absurd (omega arith)
below_some p (suc n) d lt h =
    ⊎_elim
    (λ e. let last : p n ≡ true = subst (λ q. p q ≡ true) e h in grind (arith, common_steps))
    (λ ne. let before : any_below p n ≡ true = below_some p n d (omega arith) h in grind (arith, common_steps))
    (cases_eq d n)

-- some chain of m references from c stays below n
unfoldable goes : References → ℕ → ℕ → ℕ → Bool
goes refers n zero c = nat_lt c n
goes refers n (suc m) c = nat_lt c n && any_below (λ d. refers c d && goes refers n m d) n

chain_that_goes : (refers : References) (n m c : ℕ) → goes refers n m c ≡ true
    → (rest : List ℕ) × IsChain refers c rest × All (λ q. q < n) (c ∷ rest) × (length rest ≡ m)
unfolding goes
chain_that_goes refers n zero c h =
    let lt : c < n = grind (arith, common_steps) in ([], tt, All-cons (λ q. q < n) c [] lt (All-nil (λ q. q < n)), refl)
chain_that_goes refers n (suc m) c h =
    let lt : c < n = grind (arith, common_steps) in
    let onward : any_below (λ d. refers c d && goes refers n m d) n ≡ true = grind (arith, common_steps) in
    let s = some_below (λ d. refers c d && goes refers n m d) n onward in
    let both : (refers c s.0 && goes refers n m s.0) ≡ true = s.2 in
    let step : refers c s.0 ≡ true = grind (arith, common_steps) in
    let later : goes refers n m s.0 ≡ true = grind (arith, common_steps) in
    let w = chain_that_goes refers n m s.0 later in
    (s.0 ∷ w.0, (step, w.1), All-cons (λ q. q < n) c (s.0 ∷ w.0) lt w.2, let e = w.3 in omega arith)

cyclic_goes : (refers : References) (n : ℕ) → OnlyBelow n refers → (m c : ℕ) → IsCyclic refers c
    → goes refers n m c ≡ true
unfolding goes
cyclic_goes refers n below zero c cyc = let lt = IsCyclic-below refers n below c cyc in grind (arith, common_steps)
cyclic_goes refers n below (suc m) c cyc =
    let lt = IsCyclic-below refers n below c cyc in
    let next = IsCyclic-next refers c cyc in
    let step : refers c next.0 ≡ true = next.1 in
    let later : goes refers n m next.0 ≡ true = cyclic_goes refers n below m next.0 next.2 in
    let both : (refers c next.0 && goes refers n m next.0) ≡ true = grind (arith, common_steps) in
    let onward = below_some (λ d. refers c d && goes refers n m d) n next.0
    (IsCyclic-below refers n below next.0 next.2) both in
    grind (arith, common_steps)

-- a cell is cyclic, or is not
pub IsCyclic-decided : (refers : References) (n : ℕ) → OnlyBelow n refers → (c : ℕ)
    → IsCyclic refers c ⊎ (IsCyclic refers c → ⊥)
IsCyclic-decided refers n below c =
    ⊎_elim
    (λ (long : goes refers n n c ≡ true).
    let w = chain_that_goes refers n n c long in
    inl (w.0, w.1, pigeonhole n (c ∷ w.0) w.2 (let e = w.3 in omega arith)))
    (λ (short : goes refers n n c ≡ false).
    inr (λ cyc. let long = cyclic_goes refers n below n c cyc in cc))
    (bool_cases (goes refers n n c))
