-- Where cells lie, and what a table shows that one of them was put into.
use Rattle.std.proofs.Common.{◌≡◌, ◌≢◌, ◌⊎◌, ℕ, ◌/◌, ◌%◌, ◌<◌, ◌≤◌, List, length, get_or, set, refl, sym, ap}
use Rattle.std.proofs.Common.{◌∙◌, eq-eqb, ne_eqb, arith, subst, inl, inr, ⊎_elim, get_or-set_same, get_or-set_other}
use Rattle.std.proofs.Common.{[], if◌then◌else◌}
use Rattle.std.proofs.lemmas.Bool.{cases_eq, cases_lt, lt-ltb, le-ltb}
use Rattle.std.proofs.lemmas.List.{get_or_read, get_or_past}
use Rattle.std.proofs.lemmas.Nat.{same_from_place, div_below, div-add-mod', mod-mul-add, mod_below}
use Rattle.std.proofs.Math.Path.{fun_ext}
use Rattle.ps_grid.specs.declared.size.TheConstants.{CELLS, COLUMNS, ROWS}
use Rattle.ps_value.specs.declared.value.Value.{Value}
use Rattle.ps_value.specs.declared.value.Value.TheVariants.{Empty as Nothing}
use Rattle.ps_shown.specs.declared.kept.Kept.{Kept}
use Rattle.ps_shown.specs.declared.kept.Kept.TheVariants.{Empty}
use Rattle.ps_shown.specs.declared.shown.TheConstants.{STRIDE, PLACES}
use Rattle.ps_shown.specs.Kept.{value_of}
use Rattle.ps_shown.specs.Shown.{KeepsCells, place_of, shown_at, with_value}

-- two cells of the grid at one place are one
pub place_of-once : (c d : ℕ) → c < CELLS → d < CELLS → place_of c ≡ place_of d → c ≡ d
unfolding place_of
place_of-once c d hc hd same =
    let rc = div_below c COLUMNS STRIDE (omega arith) (omega arith) in
    let rd = div_below d COLUMNS STRIDE (omega arith) (omega arith) in
    let both = same_from_place (c % COLUMNS) (c / COLUMNS) (d % COLUMNS) (d / COLUMNS) STRIDE rc rd same in
    let columns = both.0 in
    let rows = both.1 in
    omega (arith, columns, rows, div-add-mod' c COLUMNS, div-add-mod' d COLUMNS)

pub place_of-within : (c : ℕ) → c < CELLS → place_of c < PLACES
unfolding place_of
place_of-within c h =
    let row = div_below c COLUMNS ROWS (omega arith) (omega arith) in
    let column = mod_below c COLUMNS (omega arith) in
    omega (arith, row, column)

-- what a cell of the grid shows
pub shown_at-here : (kept : List Kept) (c : ℕ) → c < CELLS → shown_at kept c ≡ value_of (get_or kept (place_of c) Empty)
unfolding shown_at
shown_at-here kept c h =
    ap (λ b. if b then value_of (get_or kept (place_of c) Empty) else Nothing) (lt-ltb c CELLS h)

pub shown_at-past : (kept : List Kept) (c : ℕ) → CELLS ≤ c → shown_at kept c ≡ Nothing
unfolding shown_at
shown_at-past kept c h =
    ap (λ b. if b then value_of (get_or kept (place_of c) Empty) else Nothing) (le-ltb c CELLS h)

pub shown_at-read : (kept : List Kept) (c : ℕ) (x : Kept) → c < CELLS → place_of c < length kept
    → x ≡ get_or kept (place_of c) x → value_of x ≡ shown_at kept c
shown_at-read kept c x h within is =
    ap value_of (get_or_read kept (place_of c) x within is Empty) ∙ sym (shown_at-here kept c h)

-- what a cell shows that the table doesn't reach
pub shown_at-beyond : (kept : List Kept) (c : ℕ) (x : Kept) → c < CELLS → length kept ≤ place_of c
    → x ≡ Empty → value_of x ≡ shown_at kept c
shown_at-beyond kept c x h beyond is =
    ap value_of (is ∙ sym (get_or_past kept (place_of c) Empty beyond)) ∙ sym (shown_at-here kept c h)

-- tables that keep the same show the same
pub shown_at-same : (kept others : List Kept) → ((p : ℕ) → get_or kept p Empty ≡ get_or others p Empty)
    → shown_at kept ≡ shown_at others
shown_at-same kept others same =
    fun_ext (λ c. ⊎_elim
    (λ h. shown_at-here kept c h ∙ ap value_of (same (place_of c)) ∙ sym (shown_at-here others c h))
    (λ h. shown_at-past kept c h ∙ sym (shown_at-past others c h)) (cases_lt c CELLS))

with_value-same : (v : ℕ → Value) (c : ℕ) (x : Value) → with_value v c x c ≡ x
unfolding with_value
with_value-same v c x = ap (λ b. if b then x else v c) (eq-eqb c c refl)

with_value-other : (v : ℕ → Value) (cell c : ℕ) (x : Value) → cell ≢ c → with_value v cell x c ≡ v c
unfolding with_value
with_value-other v cell c x h = ap (λ b. if b then x else v c) (ne_eqb cell c h)

put_at : (kept : List Kept) (cell c : ℕ) (x : Kept) → cell < CELLS → place_of cell < length kept
    → (cell ≡ c) ⊎ (cell ≢ c) → (c < CELLS) ⊎ (CELLS ≤ c)
    → shown_at (set kept (place_of cell) x) c ≡ with_value (shown_at kept) cell (value_of x) c
put_at kept cell c x h within (inl p) _ =
    subst (λ b. shown_at (set kept (place_of cell) x) b ≡ with_value (shown_at kept) cell (value_of x) b) p
    (shown_at-here (set kept (place_of cell) x) cell h
    ∙ ap value_of (get_or-set_same kept (place_of cell) x Empty within)
    ∙ sym (with_value-same (shown_at kept) cell (value_of x)))
put_at kept cell c x h within (inr p) (inl q) =
    shown_at-here (set kept (place_of cell) x) c q
    ∙ ap value_of (get_or-set_other kept (place_of cell) (place_of c) x Empty
    (λ e. p (place_of-once cell c h q (sym e))))
    ∙ sym (shown_at-here kept c q)
    ∙ sym (with_value-other (shown_at kept) cell c (value_of x) p)
put_at kept cell c x h within (inr p) (inr q) =
    shown_at-past (set kept (place_of cell) x) c q ∙ sym (shown_at-past kept c q)
    ∙ sym (with_value-other (shown_at kept) cell c (value_of x) p)

pub shown_at-set : (kept : List Kept) (cell : ℕ) (x : Kept) → cell < CELLS → place_of cell < length kept
    → shown_at (set kept (place_of cell) x) ≡ with_value (shown_at kept) cell (value_of x)
shown_at-set kept cell x h within =
    fun_ext (λ c. put_at kept cell c x h within (cases_eq cell c) (cases_lt c CELLS))

-- a table that keeps nothing shows nothing
pub shown_at-empty : (kept : List Kept) → kept ≡ [] → shown_at kept ≡ λ _. Nothing
shown_at-empty kept empty =
    fun_ext (λ c. ⊎_elim
    (λ h. shown_at-here kept c h ∙ ap (λ (xs : List Kept). value_of (get_or xs (place_of c) Empty)) empty)
    (λ h. shown_at-past kept c h) (cases_lt c CELLS))

-- ---- the places after a column's last row

-- no cell lies there
place_of-row : (c : ℕ) → c < CELLS → place_of c % STRIDE < ROWS
unfolding place_of
place_of-row c h =
    let row = div_below c COLUMNS ROWS (omega arith) (omega arith) in
    let rest = mod-mul-add (c % COLUMNS) STRIDE (c / COLUMNS) (omega (arith, row)) in
    omega (arith, row, rest)

-- a table where a cell is put keeps nothing there
pub keeps_put : (kept reached : List Kept) (cell place : ℕ) (x : Kept) → KeepsCells kept
    → ((p : ℕ) → get_or reached p Empty ≡ get_or kept p Empty) → cell < CELLS → place ≡ place_of cell
    → KeepsCells (set reached place x)
keeps_put kept reached cell place x keeps same h is p low =
    let row = place_of-row cell h in
    get_or-set_other reached place p x Empty
    (λ e. let at : p % STRIDE ≡ place_of cell % STRIDE = ap (λ q. q % STRIDE) (e ∙ is) in omega (arith, low, row, at))
    ∙ same p ∙ keeps p low
