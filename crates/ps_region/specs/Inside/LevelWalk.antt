-- The walk along the queue, level after level.
use Rattle.std.specs.Prelude.{◌≡◌, ◌<◌, ◌≤◌, ℕ, suc, Bool, true, false, cond, not, ◌&&◌, ◌==◌, ◌⊎◌, List, length}
use Rattle.std.specs.Prelude.{take, slice_index_or}
use Rattle.ps_grid.specs.Chains.{References, In}
use Rattle.ps_region.specs.Inside.Counts.{cells_left, Queued}

-- a formula cell of the region
abbrev pub is_frame : (ℕ → Bool) → List Bool → ℕ → Bool
is_frame formula marks c = slice_index_or marks c false && formula c

-- a cell that has no level at first: a formula cell of the region, or a cell outside it that was cyclic
abbrev pub is_pending : (ℕ → Bool) → (ℕ → Bool) → List Bool → ℕ → Bool
is_pending formula was marks d = cond (slice_index_or marks d false) (formula d) (was d)

-- ready: a formula cell whose count is 0; held: one whose count isn't
abbrev pub is_ready : (ℕ → Bool) → List ℕ → ℕ → Bool
is_ready formula left c = formula c && (slice_index_or left c 0 == 0)

abbrev pub is_held : (ℕ → Bool) → List ℕ → ℕ → Bool
is_held formula left c = formula c && not (slice_index_or left c 0 == 0)

-- The queue up to `head` is walked. Up to `end` it has the cells of the levels up to k, and those from `start` on are
-- of level k. From `end` on it has cells of the next level.
pub record Levelling (refers : References) (pending frame : ℕ → Bool) (n start head end k : ℕ)
    (left level order : List ℕ) : Type 0 where
  pub started : start ≤ head
  pub reached : head ≤ end
  pub within : end ≤ length order
  pub queued : Queued left order
  pub counted : (c : ℕ) → frame c ≡ true → slice_index_or left c 0 ≡ cells_left refers pending (take head order) n c
  pub levelled : (c : ℕ) → frame c ≡ true → slice_index_or left c 0 ≡ 0 → In order c
  pub framed : (c : ℕ) → In order c → frame c ≡ true
  pub current : (q : ℕ) → start ≤ q → q < end → slice_index_or level (slice_index_or order q 0) 0 ≡ k
  pub before : (q : ℕ) → q < end → slice_index_or level (slice_index_or order q 0) 0 ≤ k
  pub after : (q : ℕ) → end ≤ q → q < length order → slice_index_or level (slice_index_or order q 0) 0 ≡ suc k
  pub some : (c : ℕ) → In order c → 0 < slice_index_or level c 0
  pub falls : (c d : ℕ) → In order c → refers c d ≡ true
      → (In order d × (slice_index_or level d 0 < slice_index_or level c 0)) ⊎ (pending d ≡ false)
  pub next : (c m : ℕ) → In order c → slice_index_or level c 0 ≡ suc (suc m)
      → (d : ℕ) × (refers c d ≡ true) × In order d × (slice_index_or level d 0 ≡ suc m)

-- `starts` has the places where the levels 1, 2, .. of the queue begin, and at its end the place after the last one
pub record Levels (starts order level : List ℕ) : Type 0 where
  pub first : slice_index_or starts 0 0 ≡ 0
  pub rises : (j : ℕ) → suc j < length starts → slice_index_or starts j 0 < slice_index_or starts (suc j) 0
  pub inside : (j : ℕ) → j < length starts → slice_index_or starts j 0 ≤ length order
  pub each : (j q : ℕ) → suc j < length starts → slice_index_or starts j 0 ≤ q → q < slice_index_or starts (suc j) 0
      → slice_index_or level (slice_index_or order q 0) 0 ≡ suc j
