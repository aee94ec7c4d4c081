-- Formulas put in entry by entry, and what entries give to cells.
use Rattle.std.proofs.Common.{◌≡◌, ◌≢◌, ℕ, zero, suc, ◌+◌, ◌<◌, List, [], ◌∷◌, ◌++◌, length, get_or, take}
use Rattle.std.proofs.Common.{if◌then◌else◌, refl, sym, ap, ◌∙◌, eq-eqb, ne_eqb, arith, ⊎_elim, subst, Bool, true}
use Rattle.std.proofs.Common.{false, cond}
use Rattle.std.specs.Prelude.{Option, Some, None}
use Rattle.std.specs.List.{All, count_by}
use Rattle.std.specs.List.Sorted.{IsStrictlyIncreasing}
use Rattle.std.proofs.lemmas.List.Sums.{fold-append, sum_by-append}
use Rattle.ps_grid.specs.Chains.{In}
use Rattle.ps_grid.proofs.ChainLemmas.{In-cases, In-decided, In-more, In-self}
use Rattle.ps_formula.specs.Tree.{Tree}
use Rattle.ps_content.specs.Order.{formula_in}
use Rattle.ps_index.specs.declared.span.Span.{Span}
use Rattle.ps_index.specs.Stands.{Puts, Stands, is_run, refers_row, with_put}
use Rattle.ps_delta.specs.declared.cell_state.CellState.{CellState}
use Rattle.ps_delta.specs.State.{State, with_cell}
use Rattle.ps_delta.specs.Deltas.{Entries, cells_of, overlaid}
use Rattle.ps_delta.specs.Order.{Rising}
use Rattle.ps_delta.specs.Changes.{entries_from}
use Rattle.ps_delta.proofs.CellLists.{rising_from_increasing}
use Rattle.ps_delta.proofs.StateLemmas.{with_cell-same, with_cell-other}
use Rattle.ps_delta.proofs.WalkLemmas.{more_entries}
use Rattle.ps_cells.specs.Settled.{content_of}
use Rattle.ps_cells.specs.Inside.Formulas.{as_list, forms_of, with_puts}

-- what a state with entries put over it holds, at a cell that none of them has
pub overlaid_others : (s : State) (es : Entries) (c : ℕ) → ¬ In (cells_of es) c → overlaid s es c ≡ s c
overlaid_others s [] c absent = refl
overlaid_others s (e ∷ es) c absent =
    overlaid_others (with_cell s e.0 e.1) es c (λ i. absent (In-more c e.0 (cells_of es) i))
    ∙ with_cell-other s e.0 c e.1 (λ p. absent (subst (In (cells_of (e ∷ es))) p (In-self e.0 (cells_of es))))

-- cells from n on leave what is held below n
overlaid-rising : (n : ℕ) (s : State) (es : Entries) (c : ℕ) → Rising n (cells_of es) → c < n → overlaid s es c ≡ s c
overlaid-rising n s [] c r h = refl
overlaid-rising n s (e ∷ es) c r h =
    overlaid-rising (e.0 + 1) (with_cell s e.0 e.1) es c r.1 (omega (arith, r.0, h))
    ∙ with_cell-other s e.0 c e.1 (λ p. omega (arith, p, r.0, h))

rising_hold : (n : ℕ) (s : State) (es : Entries) → Rising n (cells_of es) → All (λ e. e.1 ≡ overlaid s es e.0) es
rising_hold n s [] r i d h = absurd (omega (arith, h))
rising_hold n s (e ∷ es) r zero d h =
    sym (overlaid-rising (e.0 + 1) (with_cell s e.0 e.1) es e.0 r.1 (omega arith) ∙ with_cell-same s e.0 e.1)
rising_hold n s (e ∷ es) r (suc i) d h =
    rising_hold (e.0 + 1) (with_cell s e.0 e.1) es r.1 i d (omega (arith, h))

rising : (es : Entries) → IsStrictlyIncreasing (cells_of es) → Rising 0 (cells_of es)
rising es once = rising_from_increasing 0 (cells_of es) once (λ _. omega arith)

-- each entry is what the state with all of them put over it holds
pub entries_hold : (s : State) (es : Entries) → IsStrictlyIncreasing (cells_of es)
    → All (λ e. e.1 ≡ overlaid s es e.0) es
entries_hold s es once = rising_hold 0 s es (rising es once)

-- one more formula is put in
pub with_puts-more : (cells : Entries) (i : ℕ) (e : ℕ × CellState) (forms : Puts) → i < length cells
    → e ≡ get_or cells i e
    → with_puts (take (i + 1) cells) forms ≡ with_put e.0 (formula_in (content_of e.1)) (with_puts (take i cells) forms)
with_puts-more cells i e forms within is =
    ap (λ es. with_puts es forms) (sym (more_entries cells i e within is))
    ∙ fold-append (λ (f : Puts) (d : ℕ × CellState). with_put d.0 (formula_in (content_of d.1)) f) forms (take i cells)
    (e ∷ [])

-- the formula of the last cell is put in last
pub with_puts-last : (rest : Entries) (e : ℕ × CellState) (forms : Puts)
    → with_puts (rest ++ e ∷ []) forms ≡ with_put e.0 (formula_in (content_of e.1)) (with_puts rest forms)
with_puts-last rest e forms =
    fold-append (λ (f : Puts) (d : ℕ × CellState). with_put d.0 (formula_in (content_of d.1)) f) forms rest (e ∷ [])

-- one more formula, at its cell and elsewhere
with_put-same : (c : ℕ) (o : Option Tree) (forms : Puts) → with_put c o forms c ≡ as_list o ++ forms c
with_put-same c None forms = refl
with_put-same c (Some t) forms = ap (λ b. if b then (t ∷ forms c) else forms c) (eq-eqb c c refl)

with_put-other : (c d : ℕ) (o : Option Tree) (forms : Puts) → c ≢ d → with_put c o forms d ≡ forms d
with_put-other c d None forms h = refl
with_put-other c d (Some t) forms h = ap (λ b. if b then (t ∷ forms d) else forms d) (ne_eqb c d h)

-- the formulas of a cell that no entry has
pub with_puts-others : (es : Entries) (forms : Puts) (c : ℕ) → ¬ In (cells_of es) c → with_puts es forms c ≡ forms c
with_puts-others [] forms c absent = refl
with_puts-others (e ∷ es) forms c absent =
    with_puts-others es (with_put e.0 (formula_in (content_of e.1)) forms) c
    (λ i. absent (In-more c e.0 (cells_of es) i))
    ∙ with_put-other e.0 c (formula_in (content_of e.1)) forms
    (λ p. absent (subst (In (cells_of (e ∷ es))) p (In-self e.0 (cells_of es))))

-- a cell of rising ones is not before the first
absent_before : (n : ℕ) (es : Entries) (c : ℕ) → Rising n (cells_of es) → c < n → ¬ In (cells_of es) c
absent_before n [] c r h i = absurd (let f : false ≡ true = i in cc)
absent_before n (e ∷ es) c r h i =
    ⊎_elim (λ p. omega (arith, p, r.0, h)) (λ j. absent_before (e.0 + 1) es c r.1 (omega (arith, r.0, h)) j)
    (In-cases c e.0 (cells_of es) i)

-- the formulas of the cell of the first entry
first_put : (s : State) (e : ℕ × CellState) (es : Entries) (forms : Puts) → ¬ In (cells_of es) e.0
    → with_puts (e ∷ es) forms e.0 ≡ forms_of (overlaid s (e ∷ es)) e.0 ++ forms e.0
first_put s e es forms absent =
    with_puts-others es (with_put e.0 (formula_in (content_of e.1)) forms) e.0 absent
    ∙ with_put-same e.0 (formula_in (content_of e.1)) forms
    ∙ ap (λ x. as_list (formula_in (content_of x)) ++ forms e.0)
    (sym (overlaid_others (with_cell s e.0 e.1) es e.0 absent ∙ with_cell-same s e.0 e.1))

rising_puts : (n : ℕ) (s : State) (es : Entries) (forms : Puts) (c : ℕ) → Rising n (cells_of es) → In (cells_of es) c
    → with_puts es forms c ≡ forms_of (overlaid s es) c ++ forms c
rising_puts n s [] forms c r i = absurd (let f : false ≡ true = i in cc)
rising_puts n s (e ∷ es) forms c r i =
    ⊎_elim
    (λ p. subst (λ d. with_puts (e ∷ es) forms d ≡ forms_of (overlaid s (e ∷ es)) d ++ forms d) (sym p)
    (first_put s e es forms (absent_before (e.0 + 1) es e.0 r.1 (omega arith))))
    (λ j. rising_puts (e.0 + 1) (with_cell s e.0 e.1) es (with_put e.0 (formula_in (content_of e.1)) forms) c r.1 j
    ∙ ap (λ ts. forms_of (overlaid s (e ∷ es)) c ++ ts)
    (with_put-other e.0 c (formula_in (content_of e.1)) forms
    (λ p. absent_before (e.0 + 1) es e.0 r.1 (omega arith) (subst (In (cells_of es)) (sym p) j))))
    (In-cases c e.0 (cells_of es) i)

-- the formulas of a cell that an entry has: the entry's, and then those before
pub with_puts-at : (s : State) (es : Entries) (forms : Puts) (c : ℕ) → IsStrictlyIncreasing (cells_of es)
    → In (cells_of es) c → with_puts es forms c ≡ forms_of (overlaid s es) c ++ forms c
with_puts-at s es forms c once i = rising_puts 0 s es forms c (rising es once) i

-- the same cells, each with what it holds in s
pub cells_of-from : (s : State) (es : Entries) → cells_of (entries_from s es) ≡ cells_of es
cells_of-from s [] = refl
cells_of-from s (e ∷ es) = ap (λ cs. e.0 ∷ cs) (cells_of-from s es)

-- at the cells of entries, s put over t gives s
pub overlaid_from : (s t : State) (es : Entries) (c : ℕ) → In (cells_of es) c → overlaid t (entries_from s es) c ≡ s c
overlaid_from s t [] c i = absurd (let f : false ≡ true = i in cc)
overlaid_from s t (e ∷ es) c i =
    ⊎_elim
    (λ j. overlaid_from s (with_cell t e.0 (s e.0)) es c j)
    (λ absent.
    ⊎_elim
    (λ p. overlaid_others (with_cell t e.0 (s e.0)) (entries_from s es) c
    (λ j. absent (subst (λ cs. In cs c) (cells_of-from s es) j))
    ∙ subst (λ d. with_cell t e.0 (s e.0) d ≡ s d) (sym p) (with_cell-same t e.0 (s e.0)))
    (λ j. absurd (absent j))
    (In-cases c e.0 (cells_of es) i))
    (In-decided (cells_of es) c)

-- of two lists one after the other as many items pass a test as the other way about
count-swap : {X : Type 0} (p : X → Bool) (xs ys : List X) → count_by p (xs ++ ys) ≡ count_by p (ys ++ xs)
count-swap p xs ys =
    let there : count_by p (xs ++ ys) ≡ count_by p xs + count_by p ys = sum_by-append (λ x. cond (p x) 1 0) xs ys in
    let back : count_by p (ys ++ xs) ≡ count_by p ys + count_by p xs = sum_by-append (λ x. cond (p x) 1 0) ys xs in
    omega (arith, there, back)

-- the new formulas beside the old ones, and the old ones beside the new
counts_swapped : (s : State) (es : Entries) (c : ℕ) (p : Tree → Bool) → IsStrictlyIncreasing (cells_of es)
    → count_by p (with_puts es (forms_of s) c)
    ≡ count_by p (with_puts (entries_from s es) (forms_of (overlaid s es)) c)
counts_swapped s es c p once =
    let same = cells_of-from s es in
    ⊎_elim
    (λ i.
    let new = with_puts-at s es (forms_of s) c once i in
    let old = with_puts-at s (entries_from s es) (forms_of (overlaid s es)) c
    (subst IsStrictlyIncreasing (sym same) once) (subst (λ cs. In cs c) (sym same) i) in
    ap (count_by p) new
    ∙ count-swap p (forms_of (overlaid s es) c) (forms_of s c)
    ∙ ap (λ x. count_by p (as_list (formula_in (content_of x)) ++ forms_of (overlaid s es) c))
    (sym (overlaid_from s s es c i))
    ∙ sym (ap (count_by p) old))
    (λ absent.
    ap (count_by p) (with_puts-others es (forms_of s) c absent
    ∙ ap (λ x. as_list (formula_in (content_of x))) (sym (overlaid_others s es c absent))
    ∙ sym (with_puts-others (entries_from s es) (forms_of (overlaid s es)) c
    (λ i. absent (subst (λ cs. In cs c) same i)))))
    (In-decided (cells_of es) c)

-- the index that had the new formulas put in beside the old ones has the old ones beside the new
pub swapped : (s : State) (es : Entries) (index : List (List Span)) → IsStrictlyIncreasing (cells_of es)
    → Stands index (with_puts es (forms_of s)) → Stands index (with_puts (entries_from s es) (forms_of (overlaid s es)))
swapped s es index once stands =
    λ k lt span. stands k lt span ∙ counts_swapped s es span.cell (λ t. is_run (refers_row t k) span.from span.to) once
