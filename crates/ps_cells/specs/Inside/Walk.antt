-- The walk of a recalculation: which cells are due, and what holds between two of its steps.
use Rattle.std.specs.Prelude.{◌≡◌, ◌≢◌, ◌<◌, ◌≤◌, ℕ, Bool, true, false, ◌||◌, ◌⊎◌, List, [], ◌∷◌, nat_eq}
use Rattle.std.specs.Prelude.{Option, IfSome}
use Rattle.std.specs.List.{list_any, IsDistinct}
use Rattle.ps_grid.specs.Chains.{References, In, InRegion, IsDepth}
use Rattle.ps_value.specs.declared.value.Value.{Value}
use Rattle.ps_value.specs.declared.value.Value.TheVariants.{Err}
use Rattle.ps_value.specs.declared.value.Fault.{Fault}
use Rattle.ps_eval.specs.Items.{Assignment}
use Rattle.ps_delta.specs.State.{State, IsInGrid}
use Rattle.ps_cells.specs.Settled.{refers_to, Cyclic, value_of, IsSettled}
use Rattle.ps_region.specs.CellSets.{has_cell}
pub use Rattle.ps_region.specs.Found.{Found, IsFound, IsFrame, IsCount}
pub use Rattle.ps_cells.specs.Recalculated.{formula_at, InFrame, Changed, IsDue, IsWork}

-- QUIET: the cell is not touched, and each cell that it refers to shows the value that it showed before
abbrev pub IsQuiet : State → List ℕ → Assignment → Assignment → ℕ → Type 0
IsQuiet t touched v u c = ¬ In touched c × ((d : ℕ) → refers_to t c d ≡ true → u d ≡ v d)

-- a change from the state s, which shows v, to the state t: they differ at touched cells alone
pub record IsStateChange (s t : State) (v : Assignment) (touched : List ℕ) : Type 0 where
  pub settled : IsSettled s v
  pub before : IsInGrid s
  pub after : IsInGrid t
  pub same : (c : ℕ) → ¬ In touched c → s c ≡ t c

-- the list has each cell that refers to x; any other cell in it is touched
pub record Lists (refers : References) (touched : List ℕ) (x : ℕ) (listed : List ℕ) : Type 0 where
  pub all : (c : ℕ) → refers c x ≡ true → In listed c
  pub extra : (c : ℕ) → In listed c → (refers c x ≡ true) ⊎ In touched c

-- the cell x gets the value y; if that is another value than it showed, the cells of the list are flagged
pub record Shows (x : ℕ) (y : Value) (listed : List ℕ) (u u2 : Assignment) (flags flags2 : ℕ → Bool) : Type 0 where
  pub here : u2 x ≡ y
  pub others : (c : ℕ) → c ≢ x → u2 c ≡ u c
  pub spread : ((y ≡ u x) × ((c : ℕ) → flags2 c ≡ flags c))
      ⊎ ((y ≢ u x) × ((c : ℕ) → flags2 c ≡ (flags c || list_any (nat_eq c) listed)))

-- THE FIRST VALUES of a change: of the touched cells those of `walked`, and of the cyclic cells those of `closed`,
-- are dealt with
pub record Begun (t : State) (v : Assignment) (touched walked closed : List ℕ) (u : Assignment) (flags : ℕ → Bool)
    : Type 0 where
  pub among : (c : ℕ) → In walked c → In touched c
  pub cyclic : (c : ℕ) → In closed c → InRegion (refers_to t) touched c × Cyclic t c
  pub plain : (c : ℕ) → In walked c → formula_at t c ≡ false → u c ≡ value_of (t c) u
  pub cycle : (c : ℕ) → In closed c → u c ≡ Err Fault.Cycle
  pub kept : (c : ℕ) → (In walked c → formula_at t c ≡ true) → ¬ In closed c → u c ≡ v c
  pub formula : (c : ℕ) → In walked c → formula_at t c ≡ true → flags c ≡ true
  pub passed : (c d : ℕ) → refers_to t c d ≡ true → ¬ Cyclic t d → flags c ≡ false → u d ≡ v d
  pub flagged : (c : ℕ) → flags c ≡ true → IsDue t touched v u c
  pub inside : (c : ℕ) → flags c ≡ true → InRegion (refers_to t) touched c

-- THE WALK of the frame: the cells that are Done have their values, and the others show what they showed before; a
-- flag says which of these are due; `count` cells were evaluated
pub record Walked (t : State) (v : Assignment) (touched : List ℕ) (Done : ℕ → Type 0) (u : Assignment)
    (flags : ℕ → Bool) (count : ℕ) : Type 0 where
  pub outside : (c : ℕ) → ¬ InRegion (refers_to t) touched c → u c ≡ v c
  pub cyclic : (c : ℕ) → InRegion (refers_to t) touched c → Cyclic t c → u c ≡ Err Fault.Cycle
  pub plain : (c : ℕ) → In touched c → formula_at t c ≡ false → u c ≡ value_of (t c) u
  pub done : (c : ℕ) → Done c → u c ≡ value_of (t c) u
  pub real : (c : ℕ) → Done c → ¬ (u c ≡ Err Fault.Cycle)
  pub waiting : (c : ℕ) → InFrame t touched c → ¬ Done c → u c ≡ v c
  pub flagged : (c : ℕ) → InFrame t touched c → ¬ Done c → flags c ≡ true → IsDue t touched v u c
  pub quiet : (c : ℕ) → InFrame t touched c → ¬ Done c → flags c ≡ false → IsQuiet t touched v u c
  pub inside : (c : ℕ) → flags c ≡ true → InRegion (refers_to t) touched c
  pub framed : (c : ℕ) → Done c → InFrame t touched c
  pub closed : (c d : ℕ) → Done c → refers_to t c d ≡ true → InFrame t touched d → Done d
  pub counted : IsCount (λ c. Done c × IsDue t touched v u c) count

-- if there is a source, f is the region of a change of that cell alone, by the formulas of the state s
abbrev pub IsRegionOf : State → Option ℕ → Found → Type 0
IsRegionOf s source f = IfSome source (λ c. IsFound (refers_to s) (formula_at s) (c ∷ []) f)

-- the set has exactly the cyclic cells
pub record HoldsCyclic (t : State) (set : List Bool) : Type 0 where
  pub sound : (c : ℕ) → has_cell set c ≡ true → Cyclic t c
  pub complete : (c : ℕ) → Cyclic t c → has_cell set c ≡ true

-- LEVELS: the cells of the frame in lists 1, 2, .. `top`, each cell in one; in the frame a cell refers to cells of
-- lower levels alone
pub record AreLevels (t : State) (touched : List ℕ) (level : ℕ → List ℕ) (top : ℕ) : Type 0 where
  pub sound : (k c : ℕ) → 0 < k → k ≤ top → In (level k) c → InFrame t touched c
  pub complete : (c : ℕ) → InFrame t touched c → (k : ℕ) × (0 < k) × (k ≤ top) × In (level k) c
  pub falls : (k c d : ℕ) → 0 < k → k ≤ top → In (level k) c → refers_to t c d ≡ true → InFrame t touched d
      → (j : ℕ) × (0 < j) × (j < k) × In (level j) d
  pub once : (k : ℕ) → 0 < k → k ≤ top → IsDistinct nat_eq (level k)
  pub apart : (j k c : ℕ) → 0 < j → j ≤ top → 0 < k → k ≤ top → In (level j) c → In (level k) c → j ≡ k

-- a cell of a level below n, or one of `cells`
abbrev pub IsPassed : (ℕ → List ℕ) → ℕ → List ℕ → ℕ → Type 0
IsPassed level n cells c = ((k : ℕ) × (0 < k) × (k < n) × In (level k) c) ⊎ In cells c

-- k is the greatest depth of a cell of the frame in the frame; 0 if the frame is empty
pub record IsGreatestDepth (t : State) (touched : List ℕ) (k : ℕ) : Type 0 where
  pub most : (c d : ℕ) → InFrame t touched c → IsDepth (refers_to t) (InFrame t touched) c d → d ≤ k
  pub reached : 0 < k → (c : ℕ) × InFrame t touched c × IsDepth (refers_to t) (InFrame t touched) c k
