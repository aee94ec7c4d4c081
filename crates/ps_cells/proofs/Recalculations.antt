-- What a recalculation hands to the marking of the region, and what it takes from it.
use Rattle.std.proofs.Common.{◌≡◌, ◌&&◌, ℕ, ◌<◌, ◌≤◌, ◌+◌, Bool, true, ◌⊎◌, inl, inr, List, [], refl}
use Rattle.std.proofs.Common.{⊎_elim}
use Rattle.std.proofs.Common.{lt-ltb, arith, ◌||◌, ◌≢◌, not, eqb, get_or}
use Rattle.std.specs.List.{list_any}
use Rattle.ps_cells.proofs.CyclicSets.{cyclic_held}
use Rattle.ps_cells.proofs.ListedCells.{In-place}
use Rattle.std.specs.Prelude.{nat_lt}
use Rattle.std.proofs.lemmas.Bool.{cases_eq}
use Rattle.ps_grid.specs.declared.size.TheConstants.{CELLS}
use Rattle.ps_grid.specs.Chains.{In, IsCyclic, InRegion, IsDepth}
use Rattle.ps_region.specs.CellSets.{has_cell}
use Rattle.ps_region.specs.Found.{Found, IsFound, level_cells, level_count}
use Rattle.ps_eval.specs.Items.{Assignment}
use Rattle.ps_delta.specs.State.{State}
use Rattle.ps_cells.specs.Settled.{content_of, refers_to}
use Rattle.ps_cells.specs.Inside.Bounded.{bounded}
use Rattle.ps_cells.specs.Inside.Steps.{AreListed, Road, MayWalk, StepsLevels}
use Rattle.ps_cells.specs.Inside.Walk.{formula_at, InFrame, IsStateChange, HoldsCyclic, Begun, Walked, AreLevels}
use Rattle.ps_cells.specs.Inside.Walk.{IsPassed}
use Rattle.ps_cells.proofs.SettledValues.{formula_below, refers_formula}
use Rattle.ps_cells.proofs.ChangedStates.{same_cyclic, cyclic_formula}
use Rattle.ps_cells.proofs.Bounded.{region_bounded, cyclic_bounded, found_bounded}
use Rattle.ps_cells.proofs.FoundLevels.{levels_by_depth}
use Rattle.ps_cells.proofs.FirstValues.{start}

kept : (a x y : Bool) → a ≡ true → x ≡ true → y ≡ true → (a && (x && y)) ≡ true
kept a x y h i j = rw (h, i, j) refl

module _ (s t : State) (v : Assignment) (touched : List ℕ) (change : IsStateChange s t v touched)
    (inside : (c : ℕ) → In touched c → c < CELLS) where
  formula : (c d : ℕ) → refers_to t c d ≡ true → formula_at t c ≡ true
  formula c d h = refers_formula (content_of (t c)) d h

  below : (c : ℕ) → formula_at t c ≡ true → c < CELLS
  below c h = formula_below t change.after c h

  pub extra_bounded : (list : ℕ → List ℕ) → AreListed (refers_to t) touched list
      → (c d : ℕ) → d < CELLS → In (list d) c → (bounded (refers_to t) c d ≡ true) ⊎ In touched c
  extra_bounded list lists c d lt i =
      ⊎_elim
      (λ (r : refers_to t c d ≡ true). inl (kept (refers_to t c d) (nat_lt c CELLS) (nat_lt d CELLS) r
      (lt-ltb c CELLS (below c (formula c d r))) (lt-ltb d CELLS lt)))
      (λ (j : In touched c). inr j)
      ((lists d lt).extra c i)

  pub outside_yes : (set : List Bool) → HoldsCyclic s set
      → (c : ℕ) → (InRegion (bounded (refers_to t)) touched c → ⊥) → has_cell set c ≡ true
      → IsCyclic (bounded (refers_to t)) c
  outside_yes set holds c out i =
      (cyclic_bounded (refers_to t) (formula_at t) touched formula below inside c).1
      ((same_cyclic s t v touched change c
      (λ r. out ((region_bounded (refers_to t) (formula_at t) touched formula below inside c).1 r))).0
      (holds.sound c i))

  pub outside_no : (set : List Bool) → HoldsCyclic s set
      → (c : ℕ) → (InRegion (bounded (refers_to t)) touched c → ⊥) → IsCyclic (bounded (refers_to t)) c
      → has_cell set c ≡ true
  outside_no set holds c out cyc =
      holds.complete c
      ((same_cyclic s t v touched change c
      (λ r. out ((region_bounded (refers_to t) (formula_at t) touched formula below inside c).1 r))).1
      ((cyclic_bounded (refers_to t) (formula_at t) touched formula below inside c).0 cyc))

  pub found_now : (f : Found) → IsFound (bounded (refers_to t)) (formula_at t) touched f
      → IsFound (refers_to t) (formula_at t) touched f
  found_now f h = found_bounded (refers_to t) (formula_at t) touched formula below inside f h

  module _ (f : Found) (found : IsFound (refers_to t) (formula_at t) touched f) where
    pub levels_found : AreLevels t touched (level_cells f) (level_count f)
    levels_found =
        levels_by_depth t touched (level_cells f) (level_count f) found.level_sound found.frame_complete
        found.level_once found.falls

    pub road_found : (list : ℕ → List ℕ) → AreListed (refers_to t) touched list
        → Road t list v touched (level_cells f) (level_count f)
    road_found list lists = record { before = s; change = change; lists = lists; levels = levels_found }

    pub may_walk : (list : ℕ → List ℕ) → AreListed (refers_to t) touched list → (u : Assignment) (flags : ℕ → Bool)
        → Begun t v touched touched f.cyclic u flags
        → MayWalk t list (level_cells f) (level_count f) u flags
    may_walk list lists u flags begun = (
      v,
      touched,
      road_found list lists,
      start t v touched touched f.cyclic u flags begun (λ c i. i)
          (λ c r cyc. found.cyclic_complete c r (cyclic_formula t c cyc) cyc),
    )

    -- after the last level
    pub walked_now : (list : ℕ → List ℕ) → AreListed (refers_to t) touched list
        → (u w : Assignment) (flags last : ℕ → Bool) (n : ℕ) → Begun t v touched touched f.cyclic u flags
        → StepsLevels t list (level_cells f) (level_count f) (level_count f + 1) u w flags last n
        → Walked t v touched (IsPassed (level_cells f) (level_count f + 1) []) w last n
    walked_now list lists u w flags last n begun steps =
        steps v touched (road_found list lists) (start t v touched touched f.cyclic u flags begun (λ c i. i)
        (λ c r cyc. found.cyclic_complete c r (cyclic_formula t c cyc) cyc))

    -- the cells that are cyclic now
    pub cyclic_now : (kept now : List Bool) → HoldsCyclic s kept
        → ((c : ℕ) → has_cell now c
        ≡ ((has_cell kept c && not (list_any (eqb c) f.members)) || list_any (eqb c) f.cyclic))
        → HoldsCyclic t now
    cyclic_now kept now holds renewed =
        cyclic_held s t v touched change kept now f.members f.cyclic holds found.region_sound found.region_complete
        (λ c i. let z = found.cyclic_sound c i in (z.0, z.2))
        (λ c r cyc. found.cyclic_complete c r (cyclic_formula t c cyc) cyc)
        renewed

    -- the depths of the frame
    pub deepest_now : (c : ℕ) → InFrame t touched c
        → (k : ℕ) × IsDepth (refers_to t) (InFrame t touched) c k × (k ≤ level_count f)
    deepest_now c frame =
        let k = found.frame_complete c frame in (k.0, (found.level_sound k.0 c k.1 k.2 k.3).1, k.2)

    pub reached_now : (level_count f ≡ 0)
        ⊎ ((c : ℕ) × InFrame t touched c × IsDepth (refers_to t) (InFrame t touched) c (level_count f))
    reached_now =
        ⊎_elim
        (λ (e : level_count f ≡ 0). inl e)
        (λ (ne : level_count f ≢ 0).
        let some : 0 < level_count f = omega (arith, ne) in
        let top = get_or (level_cells f (level_count f)) 0 0 in
        let here = found.level_sound (level_count f) top some (omega arith)
        (In-place (level_cells f (level_count f)) 0 0 (found.level_some (level_count f) some (omega arith))) in
        inr (top, here.0, here.1))
        (cases_eq (level_count f) 0)
