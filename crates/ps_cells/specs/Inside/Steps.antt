-- What the steps of a recalculation need to know, and what they do to the shown values and the flags.
use Rattle.std.specs.Prelude.{◌≡◌, ◌≢◌, ◌+◌, ◌<◌, ◌≤◌, ℕ, Bool, true, false, ◌⊎◌, List, [], length, map, nat_eq}
use Rattle.std.specs.Prelude.{slice_index_or, vec_capacity}
use Rattle.std.specs.List.{IsDistinct}
use Rattle.ps_grid.specs.Chains.{References, In, InRegion}
use Rattle.ps_grid.specs.declared.size.TheConstants.{CELLS}
use Rattle.ps_value.specs.declared.value.Value.{Value}
use Rattle.ps_eval.specs.Items.{Assignment}
use Rattle.ps_delta.specs.State.{State}
use Rattle.ps_cells.specs.Settled.{refers_to, value_of, Cyclic}
use Rattle.ps_cells.specs.declared.level.Level.{Level}
use Rattle.ps_cells.specs.Inside.Walk.{formula_at, IsStateChange, Lists, Shows, Begun, Walked, AreLevels, IsPassed}

-- whether a cell is flagged
abbrev pub flag_at : List Bool → ℕ → Bool
flag_at flags c = slice_index_or flags c false

-- the list of each cell of the grid has the cells that refer to it; any other cell in it is touched
abbrev pub AreListed : References → List ℕ → (ℕ → List ℕ) → Type 0
AreListed refers touched listed = (x : ℕ) → x < CELLS → Lists refers touched x (listed x)

-- ONE TOUCHED CELL: it is flagged if it has a formula, and shows y if it has none
abbrev pub IsFirst : State → ℕ → Value → List ℕ → Assignment → Assignment → (ℕ → Bool) → (ℕ → Bool) → Type 0
IsFirst t x y listed u u2 flags flags2 =
    ((formula_at t x ≡ true) × (u2 ≡ u) × (flags2 x ≡ true) × ((c : ℕ) → c ≢ x → flags2 c ≡ flags c))
    ⊎ ((formula_at t x ≡ false) × Shows x y listed u u2 flags flags2)

-- THE TOUCHED CELLS: after this step, each is flagged or shows its first value
abbrev pub BeginsAll : State → (ℕ → List ℕ) → List ℕ → Assignment → Assignment → (ℕ → Bool) → (ℕ → Bool) → Type 0
BeginsAll t listed cells u u2 flags flags2 =
    (v : Assignment) (touched : List ℕ) → AreListed (refers_to t) touched listed
    → ((c : ℕ) → In cells c → In touched c × (c < CELLS))
    → Begun t v touched [] [] u flags → Begun t v touched cells [] u2 flags2

-- THE CYCLIC CELLS: each shows #CYCLE!
abbrev pub ClosesAll : List ℕ → Assignment → Assignment → Type 0
ClosesAll cells u u2 =
    (t : State) (v : Assignment) (touched walked : List ℕ) (flags : ℕ → Bool)
    → ((c : ℕ) → In cells c → InRegion (refers_to t) touched c × Cyclic t c)
    → Begun t v touched walked [] u flags → Begun t v touched walked cells u2 flags

-- what a recalculation level after level needs: a change from a settled state, the lists of dependents, and the levels
pub record Road (t : State) (listed : ℕ → List ℕ) (v : Assignment) (touched : List ℕ) (level : ℕ → List ℕ) (top : ℕ)
    : Type 0 where
  pub before : State
  pub change : IsStateChange before t v touched
  pub lists : AreListed (refers_to t) touched listed
  pub levels : AreLevels t touched level top

-- THE DUE CELLS of a level, which may be the last one, get the values that they have if all cells show u
abbrev pub ShowsAll : Bool → (ℕ → List ℕ) → List ℕ → List Value → Assignment → Assignment → (ℕ → Bool) → (ℕ → Bool)
    → Type 0
ShowsAll is_last listed cells values u u2 flags flags2 =
    (t : State) (v : Assignment) (touched : List ℕ) (level : ℕ → List ℕ) (top k m : ℕ) → Road t listed v touched
    level top
    → 0 < k → k ≤ top → (is_last ≡ true → k ≡ top) → IsDistinct nat_eq cells
    → ((c : ℕ) → In cells c → In (level k) c × (flags c ≡ true))
    → values ≡ map (λ c. value_of (t c) u) cells
    → Walked t v touched (IsPassed level k []) u flags m
    → Walked t v touched (IsPassed level k cells) u2 flags2 (m + length cells)
    × ((c : ℕ) → ¬ In (level k) c → u2 c ≡ u c) × ((c : ℕ) → In (level k) c → flags2 c ≡ flags c)

-- ONE LEVEL, which may be the last one: n of its cells were evaluated
abbrev pub StepsLevel : State → (ℕ → List ℕ) → List ℕ → Bool → Assignment → Assignment → (ℕ → Bool) → (ℕ → Bool) → ℕ
    → Type 0
StepsLevel t listed cells is_last u u2 flags flags2 n =
    (v : Assignment) (touched : List ℕ) (level : ℕ → List ℕ) (top k m : ℕ) → Road t listed v touched level top
    → 0 < k → k ≤ top → (is_last ≡ true → k ≡ top) → level k ≡ cells
    → Walked t v touched (IsPassed level k []) u flags m
    → Walked t v touched (IsPassed level k cells) u2 flags2 (m + n)

-- a recalculation level after level may begin
abbrev pub MayWalk : State → (ℕ → List ℕ) → (ℕ → List ℕ) → ℕ → Assignment → (ℕ → Bool) → Type 0
MayWalk t listed level top u flags =
    (v : Assignment) × (touched : List ℕ) × Road t listed v touched level top
    × Walked t v touched (λ c. ⊥) u flags 0

-- THE LEVELS below n: `count` of their cells were evaluated
abbrev pub StepsLevels : State → (ℕ → List ℕ) → (ℕ → List ℕ) → ℕ → ℕ → Assignment → Assignment → (ℕ → Bool) → (ℕ → Bool)
    → ℕ → Type 0
StepsLevels t listed level top n u u2 flags flags2 count =
    (v : Assignment) (touched : List ℕ) → Road t listed v touched level top
    → Walked t v touched (λ c. ⊥) u flags 0
    → Walked t v touched (IsPassed level n []) u2 flags2 count

-- the values of the listed cells if all cells show u
abbrev pub values_at : State → Assignment → List ℕ → List Value
values_at t u cells = map (λ c. value_of (t c) u) cells

-- a level has room for n cells
abbrev pub HasRoom : ℕ → Level → Type 0
HasRoom n x = (n ≤ vec_capacity x.due) × (n ≤ vec_capacity x.values)
