-- What the marking of a region finds, as the walk needs it, and what is reported of the change.
use Rattle.std.proofs.Common.{◌≡◌, ℕ, Bool, ◌+◌, ◌<◌, ◌≤◌, true, inl, inr, List, [], length, get_or, refl}
use Rattle.std.proofs.Common.{arith, ⊎_elim, eqb}
use Rattle.std.specs.List.{IsDistinct}
use Rattle.ps_grid.specs.Chains.{In, InRegion, IsDepth}
use Rattle.ps_grid.proofs.ChainLemmas.{In-decided}
use Rattle.ps_grid.proofs.DepthLemmas.{IsDepth-unique}
use Rattle.ps_eval.specs.Items.{Assignment}
use Rattle.ps_delta.specs.State.{State}
use Rattle.ps_cells.specs.Settled.{refers_to, Cyclic, IsSettled}
use Rattle.ps_cells.specs.Inside.Walk.{formula_at, InFrame, IsCount, IsWork, IsStateChange, Walked, AreLevels, IsPassed}
use Rattle.ps_cells.specs.Inside.Walk.{IsGreatestDepth}
use Rattle.ps_cells.proofs.ListedCells.{In-place}
use Rattle.ps_cells.proofs.WalkLevels.{levels_all}
use Rattle.ps_cells.proofs.WalkEnds.{flag_listed, end_counted, end_settled}

-- the cyclic cells of the region are as many as a list of them without doubles has
pub cyclic_counted : (t : State) (touched found : List ℕ)
    → ((c : ℕ) → In found c → InRegion (refers_to t) touched c × (formula_at t c ≡ true) × Cyclic t c)
    → ((c : ℕ) → InRegion (refers_to t) touched c → formula_at t c ≡ true → Cyclic t c → In found c)
    → IsDistinct eqb found
    → IsCount (λ c. InRegion (refers_to t) touched c × (formula_at t c ≡ true) × Cyclic t c) (length found)
cyclic_counted t touched found sound complete once = (found, once, sound, (λ c h. complete c h.0 h.1 h.2), refl)

module _ (t : State) (touched : List ℕ) (level : ℕ → List ℕ) (top : ℕ)
    (sound : (k c : ℕ) → 0 < k → k ≤ top → In (level k) c
    → InFrame t touched c × IsDepth (refers_to t) (InFrame t touched) c k)
    (complete : (c : ℕ) → InFrame t touched c → (k : ℕ) × (0 < k) × (k ≤ top) × In (level k) c) where
  -- levels by depth are levels of the walk
  pub levels_by_depth : ((k : ℕ) → IsDistinct eqb (level k))
      → ((k c d : ℕ) → 0 < k → k ≤ top → In (level k) c → refers_to t c d ≡ true → InFrame t touched d
      → (j : ℕ) × (0 < j) × (j < k) × In (level j) d)
      → AreLevels t touched level top
  levels_by_depth once falls = record {
    sound = λ k c some within i. (sound k c some within i).0;
    complete = complete;
    falls = falls;
    once = λ k some within. once k;
    apart = λ j k c some_j within_j some_k within_k in_j in_k.
        IsDepth-unique (refers_to t) (InFrame t touched) c j k (sound j c some_j within_j in_j).1
        (sound k c some_k within_k in_k).1;
  }

  -- where each level has a cell, the number of levels is the greatest depth
  pub top_is_greatest : ((k : ℕ) → 0 < k → k ≤ top → 0 < length (level k)) → IsGreatestDepth t touched top
  top_is_greatest filled = record {
    most = λ c d frame depth.
        let k = complete c frame in
        let same = IsDepth-unique (refers_to t) (InFrame t touched) c d k.0 depth (sound k.0 c k.1 k.2 k.3).1 in
        let within = k.2 in omega (arith, same, within);
    reached = λ some.
        let here = sound top (get_or (level top) 0 0) some (omega arith)
        (In-place (level top) 0 0 (filled top some (omega arith))) in
        (get_or (level top) 0 0, here.0, here.1);
  }

module _ (s t : State) (v : Assignment) (touched : List ℕ) (change : IsStateChange s t v touched)
    (level : ℕ → List ℕ) (top : ℕ) (levels : AreLevels t touched level top) (u : Assignment) (flags : ℕ → Bool) (n : ℕ)
    (w : Walked t v touched (IsPassed level (top + 1) []) u flags n) (members : List ℕ)
    (sound : (c : ℕ) → In members c → InRegion (refers_to t) touched c)
    (complete : (c : ℕ) → InRegion (refers_to t) touched c → In members c) where
  all : (c : ℕ) → InFrame t touched c → IsPassed level (top + 1) [] c
  all = levels_all s t v touched change level top levels

  -- after the last level the values are settled
  pub walked_settled : IsSettled t u
  walked_settled =
      end_settled s t v touched change (IsPassed level (top + 1) []) u flags n w all
      (λ c. ⊎_elim (λ i. inl (sound c i)) (λ out. inr (λ r. out (complete c r))) (In-decided members c))

  -- just the cells of the frame that were due were evaluated
  pub walked_counted : IsCount (IsWork t touched v u) n
  walked_counted = end_counted s t v touched change (IsPassed level (top + 1) []) u flags n w all

  -- and flags are set at members alone
  pub walked_flags : (c : ℕ) → flags c ≡ true → In members c
  walked_flags = flag_listed s t v touched change (IsPassed level (top + 1) []) u flags n w members complete
