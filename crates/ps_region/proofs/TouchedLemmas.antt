-- What the notes of the touched cells say of the region.
use Rattle.std.proofs.Common.{◌≡◌, ◌≢◌, ℕ, ◌+◌, ◌<◌, Bool, true, false, not, ◌&&◌, ◌||◌, ◌⊎◌, ◌≤◌, inl, inr, List, []}
use Rattle.std.proofs.Common.{◌∷◌, ◌++◌}
use Rattle.std.proofs.Common.{length, refl, sym, ap, ◌∙◌, ⊎_elim, eqb, eq-eqb, subst, get_or, set}
use Rattle.std.proofs.Common.{take, drop}
use Rattle.std.proofs.lemmas.Bool.{cases_eq}
use Rattle.std.proofs.lemmas.List.{get_or-set_same, get_or-set_other, take_more, drop_all}
use Rattle.std.specs.List.{list_any, filter}
use Rattle.ps_grid.specs.Chains.{References, In, InRegion}
use Rattle.ps_grid.proofs.ChainLemmas.{bool_cases}
use Rattle.ps_region.specs.Inside.Touched.{FlagsTouched, IsPlain, not_plain}
use Rattle.ps_region.proofs.CellListLemmas.{in-push_same, in-push_other}

pub not_not : (b : Bool) → not (not b) ≡ b
not_not true = refl
not_not false = refl

-- a cell of the region is touched, or has a formula
touched_or_formula : (refers : References) (formula : ℕ → Bool) (touched : List ℕ)
    → ((c d : ℕ) → refers c d ≡ true → formula c ≡ true)
    → (c : ℕ) → InRegion refers touched c → In touched c ⊎ (formula c ≡ true)
touched_or_formula refers formula touched has c ([], chain, last) = inl last
touched_or_formula refers formula touched has c (d ∷ rest, chain, last) = inr (has c d chain.0)

-- of a cell of the region it is known whether it has a formula
pub plain_known : (refers : References) (formula : ℕ → Bool) (plain : List Bool) (touched : List ℕ)
    → ((c d : ℕ) → refers c d ≡ true → formula c ≡ true) → IsPlain formula plain touched
    → (c : ℕ) → InRegion refers touched c → get_or plain c false ≡ not (formula c)
plain_known refers formula plain touched has noted c r =
    ⊎_elim
    (λ t. noted c ∙ ap (λ b. b && not (formula c)) t)
    (λ f. noted c ∙ (ap (λ b. list_any (eqb c) touched && not b) f
    ∙ (and_no (list_any (eqb c) touched) ∙ ap not (sym f))))
    (touched_or_formula refers formula touched has c r)
  where
    and_no : (a : Bool) → (a && false) ≡ false
    and_no true = refl
    and_no false = refl

pub not_plain_is : (refers : References) (formula : ℕ → Bool) (plain : List Bool) (touched : List ℕ)
    → ((c d : ℕ) → refers c d ≡ true → formula c ≡ true) → IsPlain formula plain touched
    → (c : ℕ) → InRegion refers touched c → not_plain plain c ≡ formula c
not_plain_is refers formula plain touched has noted c r =
    ap not (plain_known refers formula plain touched has noted c r) ∙ not_not (formula c)

-- a listed cell that isn't fresh refers there
pub fresh_known : (refers : References) (listed : ℕ → List ℕ) (fresh : List Bool) (touched : List ℕ) (n : ℕ)
    → FlagsTouched fresh touched
    → ((c d : ℕ) → d < n → In (listed d) c → (refers c d ≡ true) ⊎ In touched c)
    → (d e : ℕ) → d < n → In (listed d) e → get_or fresh e false ≡ false → refers e d ≡ true
fresh_known refers listed fresh touched n noted extra d e lt i off =
    ⊎_elim
    (λ r. r)
    (λ t. absurd (let f : true ≡ false = sym t ∙ (sym (noted e) ∙ off) in cc))
    (extra e d lt i)

-- one more touched cell is noted
pub noted_step : (f : ℕ → Bool) (table : List Bool) (touched : List ℕ) (i c : ℕ) (b : Bool)
    → i < length touched → c ≡ get_or touched i 0 → c < length table → b ≡ f c
    → ((q : ℕ) → get_or table q false ≡ (list_any (eqb q) (take i touched) && f q))
    → (q : ℕ) → get_or (set table c b) q false ≡ (list_any (eqb q) (take (i + 1) touched) && f q)
noted_step f table touched i c b lt at low is so_far q =
    let more : take (i + 1) touched ≡ take i touched ++ c ∷ [] =
    take_more touched i 0 lt ∙ ap (λ x. take i touched ++ x ∷ []) (sym at) in
    rw more (⊎_elim
    (λ (e : q ≡ c). subst
    (λ x. get_or (set table c b) x false ≡ (list_any (eqb x) (take i touched ++ c ∷ []) && f x)) (sym e)
    (get_or-set_same table c b false low ∙ (is ∙ sym (ap (λ y. y && f c) (in-push_same (take i touched) c)))))
    (λ (ne : q ≢ c). get_or-set_other table c q b false ne
    ∙ (so_far q ∙ ap (λ y. y && f q) (sym (in-push_other (take i touched) q c ne))))
    (cases_eq q c))

-- when all marked cells are walked, none is marked
pub none_left : (table : List Bool) (items : List ℕ) (i : ℕ) → length items ≤ i
    → ((q : ℕ) → get_or table q false ≡ true → list_any (eqb q) (drop i items) ≡ true)
    → (q : ℕ) → get_or table q false ≡ false
none_left table items i le so_far q =
    ⊎_elim
    (λ (t : get_or table q false ≡ true).
    let was = rw (drop_all i items le) at (so_far q t) in absurd (let f : false ≡ true = was in cc))
    (λ f. f)
    (bool_cases (get_or table q false))

-- a filter by tests that agree on the list
pub filter-same : (p r : ℕ → Bool) (xs : List ℕ) → ((q : ℕ) → In xs q → p q ≡ r q) → filter p xs ≡ filter r xs
filter-same p r [] same = refl
filter-same p r (x ∷ xs) same =
    let first : p x ≡ r x = same x (or_first (eqb x x) (list_any (eqb x) xs) (eq-eqb x x refl)) in
    let later = filter-same p r xs (λ q i. same q (or_later (eqb q x) (list_any (eqb q) xs) i)) in
    ⊎_elim
    (λ (t : r x ≡ true). rw (first, t) (ap (λ l. x ∷ l) later))
    (λ (f : r x ≡ false). rw (first, f) later)
    (bool_cases (r x))
  where
    or_first : (a b : Bool) → a ≡ true → (a || b) ≡ true
    or_first true b h = refl
    or_first false b h = absurd (let f : false ≡ true = h in cc)

    or_later : (a b : Bool) → b ≡ true → (a || b) ≡ true
    or_later true b h = refl
    or_later false b h = h

pub and_true : (a : Bool) → (a && true) ≡ a
and_true true = refl
and_true false = refl

-- of the cells of a region, those that aren't noted as plain are its formula cells
pub formula_cells : (refers : References) (formula : ℕ → Bool) (plain : List Bool) (touched members : List ℕ)
    → ((c d : ℕ) → refers c d ≡ true → formula c ≡ true) → IsPlain formula plain touched
    → ((c : ℕ) → In members c → InRegion refers touched c) → (passes : ℕ → Bool)
    → filter (λ q. not_plain plain q && passes q) members ≡ filter (λ q. formula q && passes q) members
formula_cells refers formula plain touched members has noted sound passes =
    filter-same (λ q. not_plain plain q && passes q) (λ q. formula q && passes q) members
    (λ q i. ap (λ b. b && passes q) (not_plain_is refers formula plain touched has noted q (sound q i)))
