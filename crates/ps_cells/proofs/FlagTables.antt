-- A table of flags: the cells of a list are flagged one after the other, or lose their flags.
use Rattle.std.proofs.Common.{◌≡◌, ◌≢◌, ℕ, ◌+◌, ◌<◌, ◌≤◌, Bool, ◌||◌, true, false, List, [], ◌∷◌, ◌++◌}
use Rattle.std.proofs.Common.{length, take, drop, set, get_or, refl, sym, ap, ◌∙◌, ⊎_elim, eqb, subst}
use Rattle.std.specs.List.{list_any}
use Rattle.std.proofs.lemmas.Bool.{cases_eq, or_left, or_right, or_cases}
use Rattle.std.proofs.lemmas.List.{get_or-set_same, get_or-set_other, take_more, drop_more, drop_all}
use Rattle.ps_grid.specs.Chains.{In}
use Rattle.ps_grid.proofs.ChainLemmas.{bool_cases, In-cases}
use Rattle.ps_cells.specs.Inside.Steps.{flag_at}
use Rattle.ps_cells.proofs.SettledValues.{true_not_false}
use Rattle.ps_cells.proofs.ListedCells.{In-pushed, In-end, In-pushed_cases}

-- two tests that hold at the same places are one
same_test : (a b : Bool) → (a ≡ true → b ≡ true) → (b ≡ true → a ≡ true) → a ≡ b
same_test true b to from = sym (to refl)
same_test false true to from = from refl
same_test false false to from = refl

pub flag_here : (flags : List Bool) (x : ℕ) (b : Bool) → x < length flags → flag_at (set flags x b) x ≡ b
flag_here flags x b lt = get_or-set_same flags x b false lt

pub flag_there : (flags : List Bool) (x c : ℕ) (b : Bool) → c ≢ x → flag_at (set flags x b) c ≡ flag_at flags c
flag_there flags x c b ne = get_or-set_other flags x c b false ne

-- one cell more is flagged
pub flags_pushed : (start : ℕ → Bool) (flags : List Bool) (cells : List ℕ) (x : ℕ) → x < length flags
    → ((c : ℕ) → flag_at flags c ≡ (start c || list_any (eqb c) cells))
    → (c : ℕ) → flag_at (set flags x true) c ≡ (start c || list_any (eqb c) (cells ++ x ∷ []))
flags_pushed start flags cells x lt so_far c =
    same_test (flag_at (set flags x true) c) (start c || list_any (eqb c) (cells ++ x ∷ []))
    (λ on. ⊎_elim
    (λ e. or_right (start c) (list_any (eqb c) (cells ++ x ∷ []))
    (subst (In (cells ++ x ∷ [])) (sym e) (In-end cells x)))
    (λ ne. ⊎_elim
    (λ was. or_left (start c) (list_any (eqb c) (cells ++ x ∷ [])) was)
    (λ among. or_right (start c) (list_any (eqb c) (cells ++ x ∷ [])) (In-pushed cells x c among))
    (or_cases (start c) (list_any (eqb c) cells) (sym (so_far c) ∙ (sym (flag_there flags x c true ne) ∙ on))))
    (cases_eq c x))
    (λ on. ⊎_elim
    (λ e. subst (λ q. flag_at (set flags x true) q ≡ true) (sym e) (flag_here flags x true lt))
    (λ ne. flag_there flags x c true ne ∙ (so_far c ∙ ⊎_elim
    (λ was. or_left (start c) (list_any (eqb c) cells) was)
    (λ among. ⊎_elim
    (λ i. or_right (start c) (list_any (eqb c) cells) i)
    (λ e. absurd (ne e))
    (In-pushed_cases cells x c among))
    (or_cases (start c) (list_any (eqb c) (cells ++ x ∷ [])) on)))
    (cases_eq c x))

-- and so along a list
pub flags_step : (start : ℕ → Bool) (flags : List Bool) (cells : List ℕ) (i d : ℕ) → i < length cells
    → get_or cells i d < length flags
    → ((c : ℕ) → flag_at flags c ≡ (start c || list_any (eqb c) (take i cells)))
    → (c : ℕ) → flag_at (set flags (get_or cells i d) true) c ≡ (start c || list_any (eqb c) (take (i + 1) cells))
flags_step start flags cells i d lt inside so_far c =
    flags_pushed start flags (take i cells) (get_or cells i d) inside so_far c
    ∙ ap (λ xs. start c || list_any (eqb c) xs) (sym (take_more cells i d lt))

-- no cell of none is flagged
pub flags_start : (start : ℕ → Bool) (c : ℕ) → start c ≡ (start c || list_any (eqb c) [])
flags_start start c = same_test (start c) (start c || list_any (eqb c) [])
    (λ on. or_left (start c) (list_any (eqb c) []) on)
    (λ on. ⊎_elim (λ was. was) (λ among. absurd (let f : false ≡ true = among in cc))
    (or_cases (start c) (list_any (eqb c) []) on))

-- the cells of a list lose their flags one after the other: those that are flagged still come later in the list
pub cleared_step : (flags : List Bool) (cells : List ℕ) (i d : ℕ) → i < length cells → get_or cells i d < length flags
    → ((c : ℕ) → flag_at flags c ≡ true → In (drop i cells) c)
    → (c : ℕ) → flag_at (set flags (get_or cells i d) false) c ≡ true → In (drop (i + 1) cells) c
cleared_step flags cells i d lt inside so_far c on =
    let x : ℕ = get_or cells i d in
    ⊎_elim
    (λ e. absurd (true_not_false (flag_at (set flags x false) c) on
    (subst (λ q. flag_at (set flags x false) q ≡ false) (sym e) (flag_here flags x false inside))))
    (λ ne. ⊎_elim
    (λ e. absurd (ne e))
    (λ later. later)
    (In-cases c x (drop (i + 1) cells)
    (subst (λ xs. In xs c) (drop_more cells i d lt) (so_far c (sym (flag_there flags x c false ne) ∙ on)))))
    (cases_eq c x)

pub cleared_end : (flags : List Bool) (cells : List ℕ) (i : ℕ) → length cells ≤ i
    → ((c : ℕ) → flag_at flags c ≡ true → In (drop i cells) c) → (c : ℕ) → flag_at flags c ≡ false
cleared_end flags cells i all so_far c =
    ⊎_elim
    (λ on. let f : false ≡ true = subst (λ xs. In xs c) (drop_all i cells all) (so_far c on) in cc)
    (λ off. off)
    (bool_cases (flag_at flags c))
