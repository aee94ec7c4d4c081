-- A change of cells without formulas that no formula refers to: these cells are its region.
use Rattle.std.proofs.Common.{◌≡◌, ◌<◌, ◌≤◌, ◌-◌, ℕ, Bool, true, false, not, ◌&&◌, ◌||◌, List, [], ◌∷◌}
use Rattle.std.proofs.Common.{refl, sym, ap, ◌∙◌, ⊎_elim, arith, eqb, subst, take}
use Rattle.std.specs.Iterator.{YieldsFirst}
use Rattle.std.specs.List.{IsDistinct, list_all, list_any}
use Rattle.std.specs.Prelude.{Option, Some, None, is_some, slice_index, slice_index_or}
use Rattle.std.proofs.Math.ListN.{replicate}
use Rattle.std.proofs.Math.Seq.{drop-nil, take-nil}
use Rattle.std.proofs.lemmas.List.{get_or-replicate}
use Rattle.std.proofs.lemmas.List.Sums.{AllPass-from_list_all}
use Rattle.ps_grid.specs.declared.size.TheConstants.{CELLS}
use Rattle.ps_grid.specs.Chains.{References, In, InRegion, IsDepth}
use Rattle.ps_grid.proofs.ChainLemmas.{All-In, In-decided}
use Rattle.ps_grid.proofs.RegionLemmas.{InRegion-touched, InRegion-least}
use Rattle.ps_region.specs.CellSets.{has_cell}
use Rattle.ps_region.specs.Found.{Found, IsFound, level_cells}
use Rattle.ps_cells.specs.Inside.Alone.{is_alone, is_empty}
use Rattle.ps_eval.specs.Items.{Assignment}
use Rattle.ps_delta.specs.State.{State}
use Rattle.ps_cells.specs.Settled.{refers_to, Cyclic, IsSettled}
use Rattle.ps_cells.specs.Inside.Steps.{AreListed}
use Rattle.ps_cells.specs.Inside.Waiting.{first_value}
use Rattle.ps_cells.specs.Inside.Walk.{formula_at, AreLevels, InFrame, IsStateChange, IsCount, IsPassed, IsWork}
use Rattle.ps_cells.specs.Inside.Walk.{Begun, HoldsCyclic, Walked}
use Rattle.ps_cells.proofs.FoundLevels.{walked_settled, walked_counted, cyclic_counted}
use Rattle.ps_cells.proofs.Recalculations.{cyclic_now, deepest_now, levels_found, walked_now}
use Rattle.ps_cells.proofs.SettledValues.{true_not_false}
use Rattle.ps_cells.proofs.WalkSteps.{first_value-plain, frame_none}

-- what the first of a walk tells of the whole of it
pub empty_by_first : (all rest : List ℕ) (first : Option ℕ) (none : Bool)
    → YieldsFirst (λ (xs : List ℕ). xs) all first rest → is_some first ≡ not none → none ≡ is_empty all
empty_by_first all rest None true gives told = sym (ap is_empty gives.0)
empty_by_first all rest None false gives told = absurd (let x : false ≡ true = told in cc)
empty_by_first all rest (Some c) true gives told = absurd (let x : true ≡ false = told in cc)
empty_by_first all rest (Some c) false gives told = sym (ap is_empty gives)

-- what holds of each of them
module _ (formula : ℕ → Bool) (list : ℕ → List ℕ) where
  and_left : (a b : Bool) → (a && b) ≡ true → a ≡ true
  and_left true b h = refl
  and_left false b h = h

  and_right : (a b : Bool) → (a && b) ≡ true → b ≡ true
  and_right true b h = h
  and_right false b h = absurd (let x : false ≡ true = h in cc)

  not_true : (a : Bool) → not a ≡ true → a ≡ false
  not_true true h = absurd (let x : false ≡ true = h in cc)
  not_true false h = refl

  empty_is : (cells : List ℕ) → is_empty cells ≡ true → cells ≡ []
  empty_is [] h = refl
  empty_is (c ∷ cells) h = absurd (let x : false ≡ true = h in cc)

  each_alone : (cells : List ℕ) → list_all (is_alone formula list) cells ≡ true → (c : ℕ) → In cells c
      → is_alone formula list c ≡ true
  each_alone cells all c i =
      All-In (λ q. is_alone formula list q ≡ true) cells (AllPass-from_list_all (is_alone formula list) cells all) c i

  pub alone_plain : (cells : List ℕ) → list_all (is_alone formula list) cells ≡ true → (c : ℕ) → In cells c
      → formula c ≡ false
  alone_plain cells all c i =
      not_true (formula c) (and_left (not (formula c)) (is_empty (list c)) (each_alone cells all c i))

  pub alone_unread : (cells : List ℕ) → list_all (is_alone formula list) cells ≡ true → (c : ℕ) → In cells c
      → list c ≡ []
  alone_unread cells all c i =
      empty_is (list c) (and_right (not (formula c)) (is_empty (list c)) (each_alone cells all c i))

-- what the marking would find
abbrev pub found_alone : List ℕ → Found
found_alone touched = record {
  members = touched;
  order = [];
  starts = [];
  left = [];
  plain = replicate CELLS true;
  cyclic = [];
}

module _ (refers : References) (formula : ℕ → Bool) (touched : List ℕ) (once : IsDistinct eqb touched)
    (inside : (c : ℕ) → In touched c → c < CELLS) (plain : (c : ℕ) → In touched c → formula c ≡ false)
    (unread : (c d : ℕ) → In touched d → refers c d ≡ true → ⊥) where
  region_alone : (c : ℕ) → InRegion refers touched c → In touched c
  region_alone c r =
      InRegion-least refers touched (λ q. In touched q) (λ q i. i) (λ q d h i. absurd (unread q d i h)) c r

  no_formula : (c : ℕ) → InRegion refers touched c → formula c ≡ true → ⊥
  no_formula c r h = let x : false ≡ true = sym (plain c (region_alone c r)) ∙ h in absurd cc

  no_level : (k : ℕ) → level_cells (found_alone touched) k ≡ []
  no_level k =
      let from = slice_index [] (k - 1) in
      let to = slice_index [] k in
      ap (λ (xs : List ℕ). take (to - from) xs) (drop-nil from) ∙ take-nil (to - from)

  none_once : IsDistinct eqb []
  unfolding IsDistinct
  none_once = tt

  has_left_alone : (c : ℕ) → In touched c
      → (list_any (eqb c) touched && not (slice_index_or (replicate CELLS true) c false)) ≡ false
  has_left_alone c i = rw (i, get_or-replicate CELLS c true false (inside c i)) refl

  pub is_found_alone : IsFound refers formula touched (found_alone touched)
  is_found_alone = record {
    region_sound = λ c i. InRegion-touched refers touched c i;
    region_complete = region_alone;
    members_once = once;
    level_sound = λ k c some within i. absurd (omega (arith, some, within));
    level_complete = λ k c frame depth. absurd (no_formula c frame.0 frame.1);
    level_some = λ k some within. absurd (omega (arith, some, within));
    level_once = λ k. subst (λ xs. IsDistinct eqb xs) (sym (no_level k)) none_once;
    frame_complete = λ c frame. absurd (no_formula c frame.0 frame.1);
    falls = λ k c d some within i r frame. absurd (no_formula d frame.0 frame.1);
    cyclic_sound = λ c i. absurd (let x : false ≡ true = i in cc);
    cyclic_complete = λ c r f cyc. absurd (no_formula c r f);
    cyclic_once = none_once;
    left_counts = λ c r f. absurd (no_formula c r f);
    left_formula = λ c r. has_left_alone c (region_alone c r) ∙ sym (plain c (region_alone c r));
  }

-- After the touched cells were looked after, nothing is left to do.
module _ (s t : State) (v : Assignment) (touched : List ℕ) (change : IsStateChange s t v touched)
    (inside : (c : ℕ) → In touched c → c < CELLS) (once : IsDistinct eqb touched) (list : ℕ → List ℕ)
    (lists : AreListed (refers_to t) touched list) (alone : list_all (is_alone (formula_at t) list) touched ≡ true)
  where
    unread : (c d : ℕ) → In touched d → refers_to t c d ≡ true → ⊥
    unread c d i r =
        let here : In [] c = subst (λ xs. In xs c) (alone_unread (formula_at t) list touched alone d i)
        ((lists d (inside d i)).all c r) in
        absurd (let x : false ≡ true = here in cc)

    found : IsFound (refers_to t) (formula_at t) touched (found_alone touched)
    found = is_found_alone (refers_to t) (formula_at t) touched once inside
        (alone_plain (formula_at t) list touched alone) unread

    levels : AreLevels t touched (level_cells (found_alone touched)) 0
    levels = levels_found s t v touched change inside (found_alone touched) found

    pub cyclic_alone : (set : List Bool) → ((c : ℕ) → has_cell set c ≡ false) → HoldsCyclic s set → HoldsCyclic t set
    cyclic_alone set none holds =
        cyclic_now s t v touched change inside (found_alone touched) found set set holds
        (λ c. none c ∙ sym (ap (λ b. (b && not (list_any (eqb c) touched)) || false) (none c)))

    pub closes_alone : IsCount (λ c. InRegion (refers_to t) touched c × (formula_at t c ≡ true) × Cyclic t c) 0
    closes_alone = cyclic_counted t touched [] found.cyclic_sound found.cyclic_complete found.cyclic_once

    pub deepest_alone : (c : ℕ) → InFrame t touched c
        → (k : ℕ) × IsDepth (refers_to t) (InFrame t touched) c k × (k ≤ 0)
    deepest_alone = deepest_now s t v touched change inside (found_alone touched) found

    -- where each touched cell shows its first value, and no other cell another one
    module _ (u : Assignment) (firsts : (c : ℕ) → In touched c → u c ≡ first_value (t c))
        (others : (c : ℕ) → ¬ In touched c → u c ≡ v c) where
      flags : ℕ → Bool
      flags c = false

      begun : Begun t v touched touched [] u flags
      unfolding flags
      begun = record {
        among = λ c i. i;
        cyclic = λ c i. absurd (let f : false ≡ true = i in cc);
        plain = λ c i p. firsts c i ∙ first_value-plain t c u p;
        cycle = λ c i. absurd (let f : false ≡ true = i in cc);
        kept = λ c formula out. ⊎_elim
            (λ i. absurd (true_not_false (formula_at t c) (formula i)
            (alone_plain (formula_at t) list touched alone c i)))
            (others c)
            (In-decided touched c);
        formula = λ c i f.
            absurd (true_not_false (formula_at t c) f (alone_plain (formula_at t) list touched alone c i));
        passed = λ c d r acyclic off. ⊎_elim
            (λ i. absurd (unread c d i r))
            (others d)
            (In-decided touched d);
        flagged = λ c on. absurd (let f : false ≡ true = on in cc);
        inside = λ c on. absurd (let f : false ≡ true = on in cc);
      }

      walked : Walked t v touched (IsPassed (level_cells (found_alone touched)) 1 []) u flags 0
      walked = walked_now s t v touched change inside (found_alone touched) found list lists u u flags flags 0 begun
          (frame_none t list (level_cells (found_alone touched)) 0 u flags)

      pub settled_alone : IsSettled t u
      settled_alone = walked_settled s t v touched change (level_cells (found_alone touched)) 0 levels u flags 0 walked
          touched found.region_sound found.region_complete

      pub counted_alone : IsCount (IsWork t touched v u) 0
      counted_alone = walked_counted s t v touched change (level_cells (found_alone touched)) 0 levels u flags 0 walked
          touched found.region_sound found.region_complete
