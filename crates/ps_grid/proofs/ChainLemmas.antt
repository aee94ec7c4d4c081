-- Membership, lists that hold a cell twice, and the law that a long chain does.
use Rattle.std.proofs.Common.{◌≡◌, ℕ, ◌<◌, Bool, true, false, ◌⊎◌, inl, inr, List, [], ◌∷◌, length, refl, sym}
use Rattle.std.proofs.Common.{arith, ⊎_elim, eqb, subst}
use Rattle.std.proofs.lemmas.Grind.{common_steps}
use Rattle.std.specs.List.{list_any, IsDistinct, All, AllByRecursion}
use Rattle.std.proofs.lemmas.Map.Keys.{IsDistinct-cons}
use Rattle.std.proofs.lemmas.Map.Steps.{length-le_from_distinct_below}
use Rattle.std.proofs.lemmas.Bool.{cases_eq}
use Rattle.std.proofs.lemmas.List.Elements.{All-nil, All-cons, All-head, All-tail}
use Rattle.ps_grid.specs.Chains.{References, In, IsChain, HoldsTwice, OnlyBelow}

pub bool_cases : (b : Bool) → (b ≡ true) ⊎ (b ≡ false)
bool_cases true = inl refl
bool_cases false = inr refl

-- a cell is in a list, or is not
pub In-decided : (xs : List ℕ) (c : ℕ) → In xs c ⊎ (In xs c → ⊥)
In-decided xs c = ⊎_elim (λ i. inl i) (λ (f : list_any (eqb c) xs ≡ false). inr (λ i. cc))
    (bool_cases (list_any (eqb c) xs))

-- a cell in the list of one is that one
pub In-one : (c d : ℕ) → In (d ∷ []) c → c ≡ d
In-one c d h = grind (arith, common_steps)

pub In-self : (c : ℕ) (rest : List ℕ) → In (c ∷ rest) c
In-self c rest = grind (arith, common_steps)

pub In-more : (c d : ℕ) (rest : List ℕ) → In rest c → In (d ∷ rest) c
In-more c d rest h = grind (arith, common_steps)

pub In-cases : (c d : ℕ) (rest : List ℕ) → In (d ∷ rest) c → (c ≡ d) ⊎ In rest c
In-cases c d rest h = ⊎_elim (λ e. inl e) (λ ne. inr (grind (arith, common_steps))) (cases_eq c d)

-- what holds of each cell holds of a cell in the list
pub All-In : (P : ℕ → Type 0) (xs : List ℕ) → All P xs → (q : ℕ) → In xs q → P q
All-In P [] all q h = absurd (let f : false ≡ true = h in cc)
All-In P (x ∷ xs) all q h =
    ⊎_elim (λ e. subst P (sym e) (All-head P x xs all)) (λ i. All-In P xs (All-tail P x xs all) q i) (In-cases q x xs h)

-- a list that lacks a cell has only others
pub apart : (c : ℕ) (xs : List ℕ) → list_any (eqb c) xs ≡ false → AllByRecursion (λ y. eqb c y ≡ false) xs
apart c [] h = tt
apart c (x ∷ xs) h =
    let first : eqb c x ≡ false = grind (arith, common_steps) in
    let others : list_any (eqb c) xs ≡ false = grind (arith, common_steps) in
    (first, apart c xs others)

-- a list has each cell once, or some cell twice
pub distinct_or_twice : (xs : List ℕ) → IsDistinct eqb xs ⊎ HoldsTwice xs
unfolding IsDistinct
distinct_or_twice [] = inl tt
distinct_or_twice (x ∷ xs) =
    ⊎_elim
    (λ i. inr (inl i))
    (λ outside. ⊎_elim
    (λ d. inl (IsDistinct-cons eqb x xs (apart x xs outside) d))
    (λ t. inr (inr t))
    (distinct_or_twice xs))
    (bool_cases (list_any (eqb x) xs))

-- a list holds some cell twice, or does not
pub HoldsTwice-decided : (xs : List ℕ) → HoldsTwice xs ⊎ (HoldsTwice xs → ⊥)
HoldsTwice-decided [] = inr (λ h. h)
HoldsTwice-decided (x ∷ xs) =
    ⊎_elim
    (λ i. inl (inl i))
    (λ outside. ⊎_elim
    (λ t. inl (inr t))
    (λ once. inr (λ h. ⊎_elim outside once h))
    (HoldsTwice-decided xs))
    (In-decided xs x)

-- PIGEONHOLE: a list of more cells than there are holds one twice
pub pigeonhole : (n : ℕ) (xs : List ℕ) → All (λ c. c < n) xs → n < length xs → HoldsTwice xs
pigeonhole n xs small long =
    ⊎_elim
    (λ d. let le = length-le_from_distinct_below xs n d (All-In (λ c. c < n) xs small) in absurd (omega arith))
    (λ t. t)
    (distinct_or_twice xs)

-- the cells of `c ∷ rest` without its last
but_last : ℕ → List ℕ → List ℕ
but_last c [] = []
but_last c (d ∷ rest) = c ∷ but_last d rest

length-but_last : (c : ℕ) (rest : List ℕ) → length (but_last c rest) ≡ length rest
unfolding but_last
length-but_last c [] = refl
length-but_last c (d ∷ rest) = let h = length-but_last d rest in omega arith

-- each of them refers to the next, so is one of those that refer
but_last_below : (refers : References) (n : ℕ) → OnlyBelow n refers → (c : ℕ) (rest : List ℕ) → IsChain refers c rest
    → All (λ q. q < n) (but_last c rest)
unfolding but_last
but_last_below refers n below c [] chain = All-nil (λ q. q < n)
but_last_below refers n below c (d ∷ rest) chain =
    All-cons (λ q. q < n) c (but_last d rest) (below c d chain.0) (but_last_below refers n below d rest chain.1)

In-but_last : (x c : ℕ) (rest : List ℕ) → In (but_last c rest) x → In (c ∷ rest) x
unfolding but_last
In-but_last x c [] h = absurd (let f : false ≡ true = h in cc)
In-but_last x c (d ∷ rest) h =
    ⊎_elim
    (λ e. subst (λ q. In (q ∷ d ∷ rest) x) e (In-self x (d ∷ rest)))
    (λ i. In-more x c (d ∷ rest) (In-but_last x d rest i))
    (In-cases x c (but_last d rest) h)

twice_but_last : (c : ℕ) (rest : List ℕ) → HoldsTwice (but_last c rest) → HoldsTwice (c ∷ rest)
unfolding but_last
twice_but_last c [] h = absurd h
twice_but_last c (d ∷ rest) h = ⊎_elim (λ i. inl (In-but_last c d rest i)) (λ t. inr (twice_but_last d rest t)) h

-- PIGEONHOLE for chains: where only cells below n refer, a chain of more than n references holds a cell twice
pub long_chain_repeats : (refers : References) (n : ℕ) → OnlyBelow n refers
    → (c : ℕ) (rest : List ℕ) → IsChain refers c rest → n < length rest → HoldsTwice (c ∷ rest)
long_chain_repeats refers n below c rest chain long =
    let same = length-but_last c rest in
    twice_but_last c rest (pigeonhole n (but_last c rest) (but_last_below refers n below c rest chain) (omega arith))
