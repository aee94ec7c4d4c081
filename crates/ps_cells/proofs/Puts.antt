-- One cell shows a new value: which flags are set, and which cells are due after it.
use Rattle.std.proofs.Common.{◌≡◌, ◌≢◌, ℕ, Bool, true, false, ◌⊎◌, inl, inr, List, sym, ◌∙◌, ⊎_elim, subst}
use Rattle.std.proofs.Common.{eqb}
use Rattle.std.specs.List.{list_any}
use Rattle.std.proofs.lemmas.Bool.{cases_eq, or_left, or_right, or_cases}
use Rattle.ps_grid.specs.Chains.{In, InRegion}
use Rattle.ps_grid.proofs.ChainLemmas.{bool_cases}
use Rattle.ps_grid.proofs.RegionLemmas.{InRegion-touched, InRegion-step}
use Rattle.ps_value.specs.declared.value.Value.{Value}
use Rattle.ps_eval.specs.Items.{Assignment}
use Rattle.ps_delta.specs.State.{State}
use Rattle.ps_cells.specs.Settled.{refers_to}
use Rattle.ps_cells.specs.Inside.Walk.{IsDue, Lists, Shows}
use Rattle.ps_cells.proofs.SettledValues.{true_not_false}

-- only the value of x becomes another one: if x differed from its value before the change, it still does; then a due
-- cell stays due
pub stays_due : (t : State) (touched : List ℕ) (v : Assignment) (x : ℕ) (u u2 : Assignment)
    → (¬ (u x ≡ v x) → ¬ (u2 x ≡ v x)) → ((c : ℕ) → c ≢ x → u2 c ≡ u c)
    → (c : ℕ) → IsDue t touched v u c → IsDue t touched v u2 c
stays_due t touched v x u u2 differs others c due =
    ⊎_elim
    (λ i. inl i)
    (λ r. inr (
      r.0,
      r.1,
      (λ e. ⊎_elim
          (λ (is : r.0 ≡ x). differs (subst (λ q. ¬ (u q ≡ v q)) is r.2) (subst (λ q. u2 q ≡ v q) is e))
          (λ ne. r.2 (sym (others r.0 ne) ∙ e))
          (cases_eq r.0 x)),
    ))
    due

module _ (t : State) (touched : List ℕ) (x : ℕ) (y : Value) (listed : List ℕ) (u u2 : Assignment)
    (flags flags2 : ℕ → Bool) (lists : Lists (refers_to t) touched x listed)
    (shows : Shows x y listed u u2 flags flags2)
  where
    -- no flag is taken away
    pub flag_stays : (c : ℕ) → flags c ≡ true → flags2 c ≡ true
    flag_stays c on =
        ⊎_elim
        (λ same. same.1 c ∙ on)
        (λ other. other.1 c ∙ or_left (flags c) (list_any (eqb c) listed) on)
        shows.spread

    pub flag_was_off : (c : ℕ) → flags2 c ≡ false → flags c ≡ false
    flag_was_off c off =
        ⊎_elim (λ on. absurd (true_not_false (flags2 c) (flag_stays c on) off)) (λ f. f) (bool_cases (flags c))

    -- a flag was set before, or the value of x changed, and the cell refers to x or is touched
    pub flag_cases : (c : ℕ) → flags2 c ≡ true
        → (flags c ≡ true) ⊎ (¬ (u2 x ≡ u x) × ((refers_to t c x ≡ true) ⊎ In touched c))
    flag_cases c on =
        ⊎_elim
        (λ same. inl (sym (same.1 c) ∙ on))
        (λ other. ⊎_elim
        (λ before. inl before)
        (λ among. inr ((λ e. other.0 (sym shows.here ∙ e)), lists.extra c among))
        (or_cases (flags c) (list_any (eqb c) listed) (sym (other.1 c) ∙ on)))
        shows.spread

    -- where a cell that refers to x is not flagged, x shows what it showed
    pub unflagged_same : (c : ℕ) → refers_to t c x ≡ true → flags2 c ≡ false → u2 x ≡ u x
    unflagged_same c r off =
        ⊎_elim
        (λ same. shows.here ∙ same.0)
        (λ other. absurd
        (true_not_false (flags2 c)
        (other.1 c ∙ or_right (flags c) (list_any (eqb c) listed) (lists.all c r)) off))
        shows.spread

    -- where x is of the region, flags are set in the region alone
    pub flag_inside : InRegion (refers_to t) touched x
        → (c : ℕ) → (flags c ≡ true → InRegion (refers_to t) touched c)
        → flags2 c ≡ true → InRegion (refers_to t) touched c
    flag_inside here c before on =
        ⊎_elim before
        (λ new. ⊎_elim
        (λ r. InRegion-step (refers_to t) touched c x r here)
        (λ i. InRegion-touched (refers_to t) touched c i)
        new.1)
        (flag_cases c on)

    module _ (v : Assignment) (waited : u x ≡ v x) where
      -- where x showed what it showed before the change, a due cell stays due
      due_stays : (c : ℕ) → IsDue t touched v u c → IsDue t touched v u2 c
      due_stays c due = stays_due t touched v x u u2 (λ changed. absurd (changed waited)) shows.others c due

      -- a flagged cell is due
      pub flag_due : (c : ℕ) → (flags c ≡ true → IsDue t touched v u c) → flags2 c ≡ true → IsDue t touched v u2 c
      flag_due c before on =
          ⊎_elim
          (λ was. due_stays c (before was))
          (λ new. ⊎_elim (λ r. inr (x, r, (λ e. new.0 (e ∙ sym waited)))) (λ i. inl i) new.1)
          (flag_cases c on)

      -- a cell that is not flagged refers to none that changed
      pub unflagged_kept : (c d : ℕ) → refers_to t c d ≡ true → flags2 c ≡ false → (flags c ≡ false → u d ≡ v d)
          → u2 d ≡ v d
      unflagged_kept c d r off before =
          ⊎_elim
          (λ is. subst (λ q. u2 q ≡ v q) (sym is)
          (unflagged_same c (subst (λ q. refers_to t c q ≡ true) is r) off ∙ waited))
          (λ ne. shows.others d ne ∙ before (flag_was_off c off))
          (cases_eq d x)
