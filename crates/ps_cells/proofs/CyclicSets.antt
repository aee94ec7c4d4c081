-- The set of the cyclic cells: after a change, and when one is taken back.
use Rattle.std.proofs.Common.{◌≡◌, ◌≢◌, ◌&&◌, ◌||◌, ℕ, Bool, true, false, not, List, [], ◌∷◌, ◌++◌, refl, sym, ap, ◌∙◌}
use Rattle.std.proofs.Common.{⊎_elim, eqb, subst}
use Rattle.std.specs.List.{list_any}
use Rattle.std.proofs.lemmas.Bool.{cases_eq, or_left, or_right, or_cases}
use Rattle.ps_grid.specs.Chains.{In, InRegion}
use Rattle.ps_grid.proofs.ChainLemmas.{bool_cases, In-decided}
use Rattle.ps_region.specs.CellSets.{has_cell}
use Rattle.ps_eval.specs.Items.{Assignment}
use Rattle.ps_shown.specs.declared.kept.Kept.{Kept}
use Rattle.ps_delta.specs.State.{State}
use Rattle.ps_cells.specs.Settled.{refers_to, Cyclic, IsSettled}
use Rattle.ps_cells.specs.Inside.Screens.{cells_in, put_back, HoldsAsKept, ShowCycle}
use Rattle.ps_cells.specs.Inside.Waiting.{is_waiting}
use Rattle.ps_cells.specs.Inside.Walk.{HoldsCyclic, IsStateChange}
use Rattle.ps_cells.proofs.ChangedStates.{same_cyclic}
use Rattle.ps_cells.proofs.ChangeLists.{here, there}
use Rattle.ps_cells.proofs.ScreenLemmas.{back_none}
use Rattle.ps_cells.proofs.SettledValues.{true_not_false, waiting_is}

both : (a b : Bool) → a ≡ true → b ≡ true → (a && b) ≡ true
both a b h k = rw (h, k) refl

first_of : (a b : Bool) → (a && b) ≡ true → a ≡ true
first_of true b h = refl
first_of false b h = h

second_of : (a b : Bool) → (a && b) ≡ true → b ≡ true
second_of true b h = h
second_of false b h = absurd (true_not_false false h refl)

not_true : (b : Bool) → not b ≡ true → b ≡ false
not_true true h = absurd (true_not_false false h refl)
not_true false h = refl

-- where a cell is not in a list
outside : (c : ℕ) (xs : List ℕ) → ¬ In xs c → list_any (eqb c) xs ≡ false
outside c xs lacks = ⊎_elim (λ i. absurd (lacks i)) (λ f. f) (bool_cases (list_any (eqb c) xs))

-- those outside the region stay, and those of the region come
module _ (s t : State) (v : Assignment) (touched : List ℕ) (change : IsStateChange s t v touched)
    (kept now : List Bool) (members found : List ℕ) (holds : HoldsCyclic s kept)
    (sound : (c : ℕ) → In members c → InRegion (refers_to t) touched c)
    (complete : (c : ℕ) → InRegion (refers_to t) touched c → In members c)
    (found_sound : (c : ℕ) → In found c → InRegion (refers_to t) touched c × Cyclic t c)
    (found_complete : (c : ℕ) → InRegion (refers_to t) touched c → Cyclic t c → In found c)
    (renewed : (c : ℕ) → has_cell now c
    ≡ ((has_cell kept c && not (list_any (eqb c) members)) || list_any (eqb c) found)) where
  stays : (c : ℕ) → (has_cell kept c && not (list_any (eqb c) members)) ≡ true → Cyclic t c
  stays c h =
      let off : list_any (eqb c) members ≡ false =
      not_true (list_any (eqb c) members) (second_of (has_cell kept c) (not (list_any (eqb c) members)) h) in
      (same_cyclic s t v touched change c (λ r. true_not_false (list_any (eqb c) members) (complete c r) off)).0
      (holds.sound c (first_of (has_cell kept c) (not (list_any (eqb c) members)) h))

  stayed : (c : ℕ) → ¬ In members c → Cyclic t c → (has_cell kept c && not (list_any (eqb c) members)) ≡ true
  stayed c out cyc =
      both (has_cell kept c) (not (list_any (eqb c) members))
      (holds.complete c ((same_cyclic s t v touched change c (λ r. out (complete c r))).1 cyc))
      (ap not (outside c members out))

  pub cyclic_held : HoldsCyclic t now
  cyclic_held = record {
    sound = λ c i. ⊎_elim
        (λ a. stays c a)
        (λ f. (found_sound c f).1)
        (or_cases (has_cell kept c && not (list_any (eqb c) members)) (list_any (eqb c) found) (sym (renewed c) ∙ i));
    complete = λ c cyc. renewed c ∙ ⊎_elim
        (λ m. or_right (has_cell kept c && not (list_any (eqb c) members)) (list_any (eqb c) found)
        (found_complete c (sound c m) cyc))
        (λ out. or_left (has_cell kept c && not (list_any (eqb c) members)) (list_any (eqb c) found)
        (stayed c out cyc))
        (In-decided members c);
  }

-- the cyclic cells are those that show #CYCLE!
pub show_held : (t : State) (w : Assignment) (set : List Bool) → IsSettled t w → HoldsCyclic t set → ShowCycle w set
show_held t w set settled holds = λ c.
    ⊎_elim
    (λ (on : is_waiting (w c) ≡ true). holds.complete c ((settled.cycle c).0 (waiting_is (w c) on)) ∙ sym on)
    (λ (off : is_waiting (w c) ≡ false). ⊎_elim
    (λ (i : has_cell set c ≡ true).
    absurd (true_not_false (is_waiting (w c)) (ap is_waiting ((settled.cycle c).1 (holds.sound c i))) off))
    (λ (o : has_cell set c ≡ false). o ∙ sym off)
    (bool_cases (has_cell set c)))
    (bool_cases (is_waiting (w c)))

pub held_shown : (s : State) (v : Assignment) (set : List Bool) → IsSettled s v → ShowCycle v set → HoldsCyclic s set
held_shown s v set settled shows = record {
  sound = λ c i. (settled.cycle c).0 (waiting_is (v c) (sym (shows c) ∙ i));
  complete = λ c cyc. shows c ∙ ap is_waiting ((settled.cycle c).1 cyc);
}

-- of no old values none comes back, and of one more its own
pub restored_none : (w : Assignment) (set : List Bool) → ShowCycle w set → ShowCycle (put_back [] w) set
restored_none w set shows = subst (λ (v : Assignment). ShowCycle v set) (sym (back_none [] w refl)) shows

pub restored_more : (ps : List (ℕ × Kept)) (e : ℕ × Kept) (w : Assignment) → ¬ In (cells_in ps) e.0
    → (set set2 : List Bool) → ShowCycle (put_back ps w) set → HoldsAsKept e set set2
    → ShowCycle (put_back (ps ++ e ∷ []) w) set2
restored_more ps e w absent set set2 so_far step = λ c.
    ⊎_elim
    (λ (is : c ≡ e.0).
    subst (λ q. has_cell set2 q ≡ is_waiting (put_back (ps ++ e ∷ []) w q)) (sym is)
    (step.0 ∙ sym (ap is_waiting (here ps e w absent))))
    (λ (ne : c ≢ e.0). step.1 c ne ∙ (so_far c ∙ sym (ap is_waiting (there ps e w absent c ne))))
    (cases_eq c e.0)
