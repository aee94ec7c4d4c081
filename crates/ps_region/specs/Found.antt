-- What a mark finds: the region of a change, its levels and its cyclic cells, described by chains of references alone.
use Rattle.std.specs.Prelude.{◌≡◌, ◌-◌, ◌<◌, ◌≤◌, ℕ, Bool, true, false, not, ◌&&◌, List, length, nat_eq}
use Rattle.std.specs.Prelude.{slice_index, slice_index_or, slice_range}
use Rattle.std.specs.List.{IsDistinct, list_any}
use Rattle.ps_grid.specs.Chains.{References, In, IsCyclic, InRegion, IsDepth}

-- `members` has the cells of the region; `order` the cells of its levels, one level after the other; `starts` the place
-- where each level begins, and the place after the last one; `left` for each cell how many cyclic cells it refers to;
-- `plain` marks the members without a formula; `cyclic` has the cyclic formula cells of the region
pub record Found : Type 0 where
  pub members : List ℕ
  pub order : List ℕ
  pub starts : List ℕ
  pub left : List ℕ
  pub plain : List Bool
  pub cyclic : List ℕ

-- how many levels there are
abbrev pub level_count : Found → ℕ
level_count f = length f.starts - 1

-- the cells of level k, which is 1 at least
abbrev pub level_cells : Found → ℕ → List ℕ
level_cells f k = slice_range f.order (slice_index f.starts (k - 1)) (slice_index f.starts k)

-- a member that has a formula
abbrev pub has_left : Found → ℕ → Bool
has_left f c = list_any (nat_eq c) f.members && not (slice_index_or f.plain c false)

-- FRAME: a formula cell of the region that reaches no cycle
abbrev pub IsFrame : References → (ℕ → Bool) → List ℕ → ℕ → Type 0
IsFrame refers formula touched c =
    InRegion refers touched c × (formula c ≡ true) × (IsCyclic refers c → ⊥)

-- exactly n numbers have the property P
abbrev pub IsCount : (ℕ → Type 0) → ℕ → Type 0
IsCount P n =
    (ds : List ℕ) × IsDistinct nat_eq ds × ((d : ℕ) → In ds d → P d) × ((d : ℕ) → P d → In ds d) × (length ds ≡ n)

-- the members are the region; level k has the cells of the frame with depth k in the frame; the cyclic cells are the
-- formula cells of the region that reach a cycle
pub record IsFound (refers : References) (formula : ℕ → Bool) (touched : List ℕ) (f : Found) : Type 0 where
  pub region_sound : (c : ℕ) → In f.members c → InRegion refers touched c
  pub region_complete : (c : ℕ) → InRegion refers touched c → In f.members c
  pub members_once : IsDistinct nat_eq f.members
  pub level_sound : (k c : ℕ) → 0 < k → k ≤ level_count f → In (level_cells f k) c
      → IsFrame refers formula touched c × IsDepth refers (IsFrame refers formula touched) c k
  pub level_complete : (k c : ℕ)
      → IsFrame refers formula touched c → IsDepth refers (IsFrame refers formula touched) c k
      → (0 < k) × (k ≤ level_count f) × In (level_cells f k) c
  pub level_some : (k : ℕ) → 0 < k → k ≤ level_count f → 0 < length (level_cells f k)
  pub level_once : (k : ℕ) → IsDistinct nat_eq (level_cells f k)
  pub frame_complete : (c : ℕ) → IsFrame refers formula touched c
      → (k : ℕ) × (0 < k) × (k ≤ level_count f) × In (level_cells f k) c
  pub falls : (k c d : ℕ) → 0 < k → k ≤ level_count f → In (level_cells f k) c → refers c d ≡ true
      → IsFrame refers formula touched d → (j : ℕ) × (0 < j) × (j < k) × In (level_cells f j) d
  pub cyclic_sound : (c : ℕ) → In f.cyclic c
      → InRegion refers touched c × (formula c ≡ true) × IsCyclic refers c
  pub cyclic_complete : (c : ℕ) → InRegion refers touched c → formula c ≡ true → IsCyclic refers c → In f.cyclic c
  pub cyclic_once : IsDistinct nat_eq f.cyclic
  pub left_counts : (c : ℕ) → InRegion refers touched c → formula c ≡ true
      → IsCount (λ d. (refers c d ≡ true) × IsCyclic refers d) (slice_index f.left c)
  pub left_formula : (c : ℕ) → InRegion refers touched c → has_left f c ≡ formula c
