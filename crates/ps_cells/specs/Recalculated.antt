-- What an accepted change recalculates, by the states and the shown values before and after it.
use Rattle.std.specs.Prelude.{◌≡◌, ◌≤◌, ◌↔◌, ◌⊎◌, ℕ, Bool, true, false, List, is_some, nat_eq}
use Rattle.std.specs.List.{list_any}
use Rattle.ps_grid.specs.Chains.{References, In, InRegion, IsDepth}
use Rattle.ps_eval.specs.Items.{Assignment}
use Rattle.ps_delta.specs.State.{State, IsInGrid}
use Rattle.ps_cells.specs.Settled.{content_of, refers_to, Cyclic, IsSettled}
use Rattle.ps_content.specs.Order.{formula_in}
use Rattle.ps_region.specs.Found.{IsFrame, IsCount}

-- the cell holds a formula
abbrev pub formula_at : State → ℕ → Bool
formula_at t c = is_some (formula_in (content_of (t c)))

-- FRAME of a change to the state t: the formula cells of its region that reach no cycle
abbrev pub InFrame : State → List ℕ → ℕ → Type 0
InFrame t touched c = IsFrame (refers_to t) (formula_at t) touched c

-- a cell that c refers to shows another value than before
abbrev pub Changed : Assignment → Assignment → References → ℕ → Type 0
Changed v u refers c = (d : ℕ) × (refers c d ≡ true) × ¬ (u d ≡ v d)

-- DUE: the cell is touched, or a cell that it refers to shows another value than before
abbrev pub IsDue : State → List ℕ → Assignment → Assignment → ℕ → Type 0
IsDue t touched v u c = In touched c ⊎ Changed v u (refers_to t) c

-- WORK: the cells of the frame that are due, where the cells showed v before and show u now
abbrev pub IsWork : State → List ℕ → Assignment → Assignment → ℕ → Type 0
IsWork t touched v u c = InFrame t touched c × IsDue t touched v u c

-- a change from the state s, where the cells showed v, to the state t, where they show w. It tells how many formulas
-- were evaluated, how many formula cells of the region are cyclic, and how many levels the other ones have
pub record IsRecalculated (s t : State) (v w : Assignment) (evaluated cyclic levels : ℕ) : Type 0 where
  pub touched : List ℕ
  pub exact : (c : ℕ) → In touched c ↔ ¬ (s c ≡ t c)
  pub works : IsCount (IsWork t touched v w) evaluated
  pub closes : IsCount (λ c. InRegion (refers_to t) touched c × (formula_at t c ≡ true) × Cyclic t c) cyclic
  -- the greatest depth of a cell of the frame, and 0 where there is none
  pub deepest : (c : ℕ) → InFrame t touched c → (k : ℕ) × IsDepth (refers_to t) (InFrame t touched) c k × (k ≤ levels)
  pub reached : (levels ≡ 0) ⊎ ((c : ℕ) × InFrame t touched c × IsDepth (refers_to t) (InFrame t touched) c levels)

-- two states of the grid that differ at touched cells alone, and the settled values of each
pub record IsSettledChange (s t : State) (touched : List ℕ) (v w : Assignment) : Type 0 where
  pub before : IsInGrid s
  pub after : IsInGrid t
  pub same : (c : ℕ) → list_any (nat_eq c) touched ≡ false → s c ≡ t c
  pub settled_before : IsSettled s v
  pub settled_after : IsSettled t w

-- LAW: a cell outside the region shows what it showed
abbrev pub OutsideShowsTheSame : Type 0
OutsideShowsTheSame =
    (s t : State) (touched : List ℕ) (v w : Assignment) → IsSettledChange s t touched v w
    → (c : ℕ) → ¬ InRegion (refers_to t) touched c → w c ≡ v c

-- LAW: a cell of the frame that isn't touched shows what it showed, if each cell that it refers to does
abbrev pub QuietShowsTheSame : Type 0
QuietShowsTheSame =
    (s t : State) (touched : List ℕ) (v w : Assignment) → IsSettledChange s t touched v w
    → (c : ℕ) → InFrame t touched c → list_any (nat_eq c) touched ≡ false
    → ((d : ℕ) → refers_to t c d ≡ true → w d ≡ v d) → w c ≡ v c
