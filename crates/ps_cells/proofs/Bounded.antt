-- References to cells outside the grid, which hold no formula, change nothing of what a region shows.
use Rattle.std.proofs.Common.{◌≡◌, ℕ, ◌<◌, Bool, true, false, ◌&&◌, ◌⊎◌, inl, inr, List, [], ◌∷◌, refl}
use Rattle.std.proofs.Common.{arith, ⊎_elim, lt-ltb}
use Rattle.std.proofs.lemmas.Grind.{common_steps}
use Rattle.std.specs.Prelude.{nat_lt, slice_index}
use Rattle.std.specs.List.{All}
use Rattle.std.proofs.lemmas.List.Elements.{All-head, All-tail, All-weaker}
use Rattle.ps_grid.specs.declared.size.TheConstants.{CELLS}
use Rattle.ps_grid.specs.Chains.{References, In, IsChain, IsCyclic, InRegion, IsDepth, OnlyBelow}
use Rattle.ps_grid.proofs.CycleLemmas.{IsCyclic-next, stuck_is_cyclic}
use Rattle.ps_grid.proofs.RegionLemmas.{InRegion-touched, InRegion-step, InRegion-least}
use Rattle.ps_region.specs.Found.{Found, IsFound, IsFrame, IsCount}
use Rattle.ps_cells.specs.Inside.Bounded.{bounded}

chain_map : (b r : References) → ((c d : ℕ) → b c d ≡ true → r c d ≡ true)
    → (c : ℕ) (rest : List ℕ) → IsChain b c rest → IsChain r c rest
chain_map b r down c [] ch = tt
chain_map b r down c (d ∷ rest) ch = (down c d ch.0, chain_map b r down d rest ch.1)

chain_within : (b r : References) (P : ℕ → Type 0) → ((c d : ℕ) → r c d ≡ true → P d → b c d ≡ true)
    → (c : ℕ) (rest : List ℕ) → IsChain r c rest → All P (c ∷ rest) → IsChain b c rest
chain_within b r P up c [] ch all = tt
chain_within b r P up c (d ∷ rest) ch all =
    let tail : All P (d ∷ rest) = All-tail P c (d ∷ rest) all in
    (up c d ch.0 (All-head P d rest tail), chain_within b r P up d rest ch.1 tail)

IsCount-same : (P Q : ℕ → Type 0) (n : ℕ) → ((d : ℕ) → P d → Q d) → ((d : ℕ) → Q d → P d) → IsCount P n → IsCount Q n
IsCount-same P Q n to from h = (h.0, h.1, (λ d i. to d (h.2 d i)), (λ d q. h.3 d (from d q)), h.4)

-- b has the references of r that lead to a cell with a formula or a touched one, and no others than r
module _ (b r : References) (formula : ℕ → Bool) (touched : List ℕ) (n : ℕ)
    (down : (c d : ℕ) → b c d ≡ true → r c d ≡ true)
    (up : (c d : ℕ) → r c d ≡ true → formula d ≡ true → b c d ≡ true)
    (up_touched : (c d : ℕ) → r c d ≡ true → In touched d → b c d ≡ true)
    (below : OnlyBelow n b)
    (refers_formula : (c d : ℕ) → r c d ≡ true → formula c ≡ true) where
  region_to : (c : ℕ) → InRegion b touched c → InRegion r touched c
  region_to c h =
      InRegion-least b touched (InRegion r touched)
      (λ d i. InRegion-touched r touched d i)
      (λ e d ref i. InRegion-step r touched e d (down e d ref) i)
      c h

  region_and : (c : ℕ) → InRegion r touched c → InRegion b touched c × (In touched c ⊎ (formula c ≡ true))
  region_and c h =
      InRegion-least r touched (λ d. InRegion b touched d × (In touched d ⊎ (formula d ≡ true)))
      (λ d i. (InRegion-touched b touched d i, inl i))
      (λ e d ref i. (
        ⊎_elim
            (λ (t : In touched d). InRegion-step b touched e d (up_touched e d ref t) i.0)
            (λ (f : formula d ≡ true). InRegion-step b touched e d (up e d ref f) i.0)
            i.1,
        inr (refers_formula e d ref),
      ))
      c h

  region_from : (c : ℕ) → InRegion r touched c → InRegion b touched c
  region_from c h = let both = region_and c h in both.0

  cyclic_to : (c : ℕ) → IsCyclic b c → IsCyclic r c
  cyclic_to c h = (h.0, chain_map b r down c h.0 h.1, h.2)

  -- a cyclic cell has a formula
  cyclic_formula : (c : ℕ) → IsCyclic r c → formula c ≡ true
  cyclic_formula c h = let next = IsCyclic-next r c h in refers_formula c next.0 next.1

  cyclic_from : (c : ℕ) → IsCyclic r c → IsCyclic b c
  cyclic_from c h =
      stuck_is_cyclic b n below (IsCyclic r)
      (λ q cyc. let next = IsCyclic-next r q cyc in (next.0, up q next.0 next.1 (cyclic_formula next.0 next.2), next.2))
      c h

  frame_to : (c : ℕ) → IsFrame b formula touched c → IsFrame r formula touched c
  frame_to c h = (region_to c h.0, h.1, (λ cyc. h.2 (cyclic_from c cyc)))

  frame_from : (c : ℕ) → IsFrame r formula touched c → IsFrame b formula touched c
  frame_from c h = (region_from c h.0, h.1, (λ cyc. h.2 (cyclic_to c cyc)))

  up_frame : (c d : ℕ) → r c d ≡ true → IsFrame r formula touched d → b c d ≡ true
  up_frame c d ref f = up c d ref f.1

  depth_to : (c k : ℕ) → IsDepth b (IsFrame b formula touched) c k → IsDepth r (IsFrame r formula touched) c k
  depth_to c k h = (
    (
      h.0.0,
      chain_map b r down c h.0.0 h.0.1,
      All-weaker (IsFrame b formula touched) (IsFrame r formula touched) frame_to (c ∷ h.0.0) h.0.2,
      h.0.3,
    ),
    λ rest ch all. h.1 rest
        (chain_within b r (IsFrame r formula touched) up_frame c rest ch all)
        (All-weaker (IsFrame r formula touched) (IsFrame b formula touched) frame_from (c ∷ rest) all),
  )

  depth_from : (c k : ℕ) → IsDepth r (IsFrame r formula touched) c k → IsDepth b (IsFrame b formula touched) c k
  depth_from c k h = (
    (
      h.0.0,
      chain_within b r (IsFrame r formula touched) up_frame c h.0.0 h.0.1 h.0.2,
      All-weaker (IsFrame r formula touched) (IsFrame b formula touched) frame_from (c ∷ h.0.0) h.0.2,
      h.0.3,
    ),
    λ rest ch all. h.1 rest
        (chain_map b r down c rest ch)
        (All-weaker (IsFrame b formula touched) (IsFrame r formula touched) frame_to (c ∷ rest) all),
  )

  found_to : (f : Found) → IsFound b formula touched f → IsFound r formula touched f
  found_to f h = record {
    region_sound = λ c i. region_to c (h.region_sound c i);
    region_complete = λ c i. h.region_complete c (region_from c i);
    members_once = h.members_once;
    level_sound = λ k c some top i.
        let both = h.level_sound k c some top i in (frame_to c both.0, depth_to c k both.1);
    level_complete = λ k c fr d. h.level_complete k c (frame_from c fr) (depth_from c k d);
    level_some = h.level_some;
    level_once = h.level_once;
    frame_complete = λ c fr. h.frame_complete c (frame_from c fr);
    falls = λ k c d some top i ref fr. h.falls k c d some top i (up_frame c d ref fr) (frame_from d fr);
    cyclic_sound = λ c i. let all = h.cyclic_sound c i in (region_to c all.0, all.1, cyclic_to c all.2);
    cyclic_complete = λ c i fo cyc. h.cyclic_complete c (region_from c i) fo (cyclic_from c cyc);
    cyclic_once = h.cyclic_once;
    left_counts = λ c i fo.
        IsCount-same (λ d. (b c d ≡ true) × IsCyclic b d) (λ d. (r c d ≡ true) × IsCyclic r d) (slice_index f.left c)
        (λ d p. (down c d p.0, cyclic_to d p.1))
        (λ d p. (up c d p.0 (cyclic_formula d p.1), cyclic_from d p.1))
        (h.left_counts c (region_from c i) fo);
    left_formula = λ c i. h.left_formula c (region_from c i);
  }

-- the tests of a reference that is kept, and back
kept_all : (a x y : Bool) → (a && (x && y)) ≡ true → (a ≡ true) × (x ≡ true) × (y ≡ true)
kept_all true true true h = (refl, refl, refl)
kept_all true true false h = absurd (grind (arith, common_steps))
kept_all true false y h = absurd (grind (arith, common_steps))
kept_all false x y h = absurd (grind (arith, common_steps))

all_kept : (a x y : Bool) → a ≡ true → x ≡ true → y ≡ true → (a && (x && y)) ≡ true
all_kept true true true h i j = refl
all_kept true true false h i j = absurd (grind (arith, common_steps))
all_kept true false y h i j = absurd (grind (arith, common_steps))
all_kept false x y h i j = absurd (grind (arith, common_steps))

module _ (r : References) (formula : ℕ → Bool) (touched : List ℕ)
    (refers_formula : (c d : ℕ) → r c d ≡ true → formula c ≡ true)
    (formula_below : (c : ℕ) → formula c ≡ true → c < CELLS)
    (touched_below : (c : ℕ) → In touched c → c < CELLS) where
  down_bounded : (c d : ℕ) → bounded r c d ≡ true → r c d ≡ true
  down_bounded c d h = let all = kept_all (r c d) (nat_lt c CELLS) (nat_lt d CELLS) h in all.0

  up_bounded : (c d : ℕ) → r c d ≡ true → d < CELLS → bounded r c d ≡ true
  up_bounded c d h small =
      all_kept (r c d) (nat_lt c CELLS) (nat_lt d CELLS) h (lt-ltb c CELLS (formula_below c (refers_formula c d h)))
      (lt-ltb d CELLS small)

  only_below : OnlyBelow CELLS (bounded r)
  only_below c d h = formula_below c (refers_formula c d (down_bounded c d h))

  pub region_bounded : (c : ℕ)
      → (InRegion (bounded r) touched c → InRegion r touched c)
      × (InRegion r touched c → InRegion (bounded r) touched c)
  region_bounded c = (
    region_to (bounded r) r formula touched CELLS down_bounded (λ e d h f. up_bounded e d h (formula_below d f))
        (λ e d h t. up_bounded e d h (touched_below d t)) only_below refers_formula c,
    region_from (bounded r) r formula touched CELLS down_bounded (λ e d h f. up_bounded e d h (formula_below d f))
        (λ e d h t. up_bounded e d h (touched_below d t)) only_below refers_formula c,
  )

  pub cyclic_bounded : (c : ℕ) → (IsCyclic (bounded r) c → IsCyclic r c) × (IsCyclic r c → IsCyclic (bounded r) c)
  cyclic_bounded c = (
    cyclic_to (bounded r) r formula touched CELLS down_bounded (λ e d h f. up_bounded e d h (formula_below d f))
        (λ e d h t. up_bounded e d h (touched_below d t)) only_below refers_formula c,
    cyclic_from (bounded r) r formula touched CELLS down_bounded (λ e d h f. up_bounded e d h (formula_below d f))
        (λ e d h t. up_bounded e d h (touched_below d t)) only_below refers_formula c,
  )

  pub found_bounded : (f : Found) → IsFound (bounded r) formula touched f → IsFound r formula touched f
  found_bounded f h =
      found_to (bounded r) r formula touched CELLS down_bounded (λ e d h2 t. up_bounded e d h2 (formula_below d t))
      (λ e d h2 t. up_bounded e d h2 (touched_below d t)) only_below refers_formula f h
