-- The loops of a recalculation: each begins, and goes one cell or one level on.
use Rattle.std.proofs.Common.{◌≡◌, ◌≢◌, ℕ, Bool, ◌+◌, ◌<◌, ◌≤◌, true, false, List, [], ◌∷◌, ◌++◌, length}
use Rattle.std.proofs.Common.{refl, sym, ◌∙◌, ⊎_elim, subst}
use Rattle.ps_grid.specs.Chains.{In}
use Rattle.ps_grid.specs.declared.size.TheConstants.{CELLS}
use Rattle.ps_value.specs.declared.value.Value.{Value}
use Rattle.ps_value.specs.declared.value.Value.TheVariants.{Err}
use Rattle.ps_value.specs.declared.value.Fault.{Fault}
use Rattle.ps_eval.specs.Items.{Assignment}
use Rattle.ps_delta.specs.State.{State}
use Rattle.ps_content.specs.declared.content.Content.{Content}
use Rattle.ps_content.specs.declared.content.Content.TheVariants.{Blank, Number, Text, Formula, Tally, Choice}
use Rattle.ps_delta.specs.declared.cell_state.CellState.{CellState}
use Rattle.ps_cells.specs.Settled.{content_of, value_by, value_of}
use Rattle.ps_cells.specs.Inside.Waiting.{first_by, first_value, is_formula}
use Rattle.ps_cells.specs.Inside.Walk.{formula_at, Shows, Begun, Walked, IsPassed}
use Rattle.ps_cells.specs.Inside.Steps.{IsFirst, BeginsAll, ClosesAll, StepsLevel, MayWalk, StepsLevels}
use Rattle.ps_cells.proofs.SettledValues.{true_not_false, formula_below}
use Rattle.ps_cells.proofs.CellCounts.{distinct_below_cells}
use Rattle.ps_cells.proofs.ListedCells.{In-pushed, In-end}
use Rattle.ps_cells.proofs.FirstValues.{begun_plain, begun_formula, begun_cycle}
use Rattle.ps_cells.proofs.WalkLevels.{levels_start, levels_next}

first_by-plain : (k : Content) (x : CellState) (v : Assignment) → is_formula k ≡ false → first_by k x ≡ value_by k x v
first_by-plain Blank x v h = refl
first_by-plain (Number n) x v h = refl
first_by-plain (Text text) x v h = refl
first_by-plain (Formula tree) x v h = absurd (true_not_false true refl h)
first_by-plain Tally x v h = refl
first_by-plain Choice x v h = refl

-- a cell without a formula has its value at first
pub first_value-plain : (t : State) (c : ℕ) (v : Assignment) → formula_at t c ≡ false
    → first_value (t c) ≡ value_of (t c) v
first_value-plain t c v h = first_by-plain (content_of (t c)) (t c) v h

-- TOUCHED CELLS

pub begins_none : (t : State) (listed : ℕ → List ℕ) (u : Assignment) (flags : ℕ → Bool)
    → BeginsAll t listed [] u u flags flags
begins_none t listed u flags v touched lists among b = b

pub begins_more : (t : State) (listed : ℕ → List ℕ) (cells : List ℕ) (x : ℕ) (y : Value) (u u2 u3 : Assignment)
    (flags flags2 flags3 : ℕ → Bool) → BeginsAll t listed cells u u2 flags flags2 → ¬ In cells x
    → y ≡ first_value (t x) → IsFirst t x y (listed x) u2 u3 flags2 flags3
    → BeginsAll t listed (cells ++ x ∷ []) u u3 flags flags3
begins_more t listed cells x y u u2 u3 flags flags2 flags3 so_far fresh value first v touched lists among b =
    let b2 : Begun t v touched cells [] u2 flags2 =
    so_far v touched lists (λ c i. among c (In-pushed cells x c i)) b in
    let here = among x (In-end cells x) in
    ⊎_elim
    (λ (f : (formula_at t x ≡ true) × (u3 ≡ u2) × (flags3 x ≡ true) × ((c : ℕ) → c ≢ x → flags3 c ≡ flags2 c)).
    subst (λ w. Begun t v touched (cells ++ x ∷ []) [] w flags3) (sym f.1)
    (begun_formula t v touched cells [] x u2 flags2 flags3 b2 here.0 f.0 f.2 f.3))
    (λ (p : (formula_at t x ≡ false) × Shows x y (listed x) u2 u3 flags2 flags3).
    begun_plain t v touched cells [] (listed x) x u2 u3 flags2 flags3 b2 fresh here.0 p.0 (lists x here.1)
    (subst (λ z. Shows x z (listed x) u2 u3 flags2 flags3) (value ∙ first_value-plain t x u2 p.0) p.1))
    first

-- CYCLIC CELLS

pub closes_none : (u : Assignment) → ClosesAll [] u u
closes_none u t v touched walked flags cyclic b = b

pub closes_more : (cells : List ℕ) (x : ℕ) (u u2 u3 : Assignment) → ClosesAll cells u u2
    → u3 x ≡ Err Fault.Cycle → ((c : ℕ) → c ≢ x → u3 c ≡ u2 c) → ClosesAll (cells ++ x ∷ []) u u3
closes_more cells x u u2 u3 so_far here others t v touched walked flags cyclic b =
    let last = cyclic x (In-end cells x) in
    begun_cycle t v touched walked cells x u2 u3 flags
    (so_far t v touched walked flags (λ c i. cyclic c (In-pushed cells x c i)) b) last.0 last.1 here others

-- THE LEVELS

pub frame_none : (t : State) (listed level : ℕ → List ℕ) (top : ℕ) (u : Assignment) (flags : ℕ → Bool)
    → StepsLevels t listed level top 1 u u flags flags 0
frame_none t listed level top u flags v touched road w =
    levels_start road.before t v touched road.change level top road.levels u flags 0 w

pub frame_more : (t : State) (listed level : ℕ → List ℕ) (top n : ℕ) (cells : List ℕ) (is_last : Bool)
    (u u2 u3 : Assignment) (flags flags2 flags3 : ℕ → Bool) (count more : ℕ)
    → StepsLevels t listed level top n u u2 flags flags2 count
    → StepsLevel t listed cells is_last u2 u3 flags2 flags3 more → 0 < n → n ≤ top → (is_last ≡ true → n ≡ top)
    → level n ≡ cells
    → StepsLevels t listed level top (n + 1) u u3 flags flags3 (count + more)
frame_more t listed level top n cells is_last u u2 u3 flags flags2 flags3 count more so_far step some within last is v
    touched road w =
    levels_next road.before t v touched road.change level top road.levels n u3 flags3 (count + more) some
    (subst (λ xs. Walked t v touched (IsPassed level n xs) u3 flags3 (count + more)) (sym is)
    (step v touched level top n count road some within last is (so_far v touched road w)))

-- a cell of a level has a formula
pub level_formula : (t : State) (listed level : ℕ → List ℕ) (top : ℕ) (u : Assignment) (flags : ℕ → Bool)
    → MayWalk t listed level top u flags → (k : ℕ) → 0 < k → k ≤ top
    → (c : ℕ) → In (level k) c → formula_at t c ≡ true
level_formula t listed level top u flags may k some within c i = (may.2.levels.sound k c some within i).1

-- a level has no more cells than the grid
pub level_few : (t : State) (listed level : ℕ → List ℕ) (top : ℕ) (u : Assignment) (flags : ℕ → Bool)
    → MayWalk t listed level top u flags → (k : ℕ) → 0 < k → k ≤ top → length (level k) ≤ CELLS
level_few t listed level top u flags may k some within =
    distinct_below_cells (level k) (may.2.levels.once k some within)
    (λ c i. formula_below t may.2.change.after c (level_formula t listed level top u flags may k some within c i))
