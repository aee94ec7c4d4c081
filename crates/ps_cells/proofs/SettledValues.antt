-- Settled values: rounds lead to them, and a state has exactly one assignment of them.
use Rattle.std.proofs.Common.{◌≡◌, ℕ, ◌<◌, Bool, true, false, ◌⊎◌, inl, inr, refl, sym, ap, ◌∙◌}
use Rattle.std.proofs.Common.{⊎_elim, subst}
use Rattle.std.proofs.lemmas.Bool.{cases_eq, cases_lt}
use Rattle.ps_value.specs.declared.value.Value.{Value}
use Rattle.ps_value.specs.declared.value.Value.TheVariants.{Empty, Num, Err}
use Rattle.ps_value.specs.declared.value.Fault.{Fault}
use Rattle.ps_grid.specs.declared.size.TheConstants.{CELLS}
use Rattle.ps_eval.specs.Value.{ev}
use Rattle.ps_delta.specs.State.{State, IsInGrid, empty_cell}
use Rattle.ps_cells.specs.Settled.{content_of}
use Rattle.ps_delta.specs.declared.cell_state.CellState.{CellState}
use Rattle.ps_content.specs.declared.content.Content.{Content}
use Rattle.ps_content.specs.declared.content.Content.TheVariants.{Blank, Number, Text, Formula, Tally, Choice}
use Rattle.ps_grid.specs.Chains.{OnlyBelow}
use Rattle.ps_eval.specs.Items.{Assignment}
use Rattle.ps_cells.specs.Settled.{content_mentions, refers_to, Cyclic, value_by, value_of, IsSettled}
use Rattle.ps_cells.specs.Settled.{SettledAtMostOnce}
use Rattle.ps_cells.specs.Inside.Waiting.{is_cycle, is_waiting, is_formula, first_by, first_value, Progress, IsReady}
use Rattle.ps_cells.specs.Inside.Waiting.{RefersToWaiting, Evaluates}
use Rattle.ps_grid.proofs.ChainLemmas.{bool_cases}
use Rattle.ps_grid.proofs.CycleLemmas.{acyclic_above, stuck_is_cyclic, acyclic_induction}
use Rattle.ps_eval.proofs.Agreement.{ev-agrees}
use Rattle.ps_eval.proofs.CycleFaults.{ev-cycle}

pub true_not_false : (b : Bool) → b ≡ true → b ≡ false → ⊥
true_not_false b t f = let x : true ≡ false = sym t ∙ f in cc

-- just #CYCLE! waits
fault_waits : (f : Fault) → is_cycle f ≡ true → f ≡ Fault.Cycle
fault_waits Fault.DivZero h = absurd (true_not_false false h refl)
fault_waits Fault.Num h = absurd (true_not_false false h refl)
fault_waits Fault.Value h = absurd (true_not_false false h refl)
fault_waits Fault.Cycle h = refl

pub waiting_is : (x : Value) → is_waiting x ≡ true → x ≡ Err Fault.Cycle
waiting_is Empty h = absurd (true_not_false false h refl)
waiting_is (Num n) h = absurd (true_not_false false h refl)
waiting_is (Value.Text t) h = absurd (true_not_false false h refl)
waiting_is (Value.Choice o) h = absurd (true_not_false false h refl)
waiting_is (Err f) h = ap Err (fault_waits f h)

-- the value of a cell hangs on the cells that it refers to alone
pub value_by-agrees : (k : Content) (x : CellState) (v w : Assignment)
    → ((d : ℕ) → content_mentions k d ≡ true → v d ≡ w d) → value_by k x v ≡ value_by k x w
value_by-agrees Blank x v w h = refl
value_by-agrees (Number n) x v w h = refl
value_by-agrees (Text t) x v w h = refl
value_by-agrees (Formula t) x v w h = ev-agrees t v w h
value_by-agrees Tally x v w h = refl
value_by-agrees Choice x v w h = refl

-- and it is #CYCLE! only where a cell that it refers to shows that
pub value_by-waits : (k : Content) (x : CellState) (v : Assignment) → is_waiting (value_by k x v) ≡ true
    → (d : ℕ) × (content_mentions k d ≡ true) × (is_waiting (v d) ≡ true)
value_by-waits Blank x v h = absurd (true_not_false false h refl)
value_by-waits (Number n) x v h = absurd (true_not_false false h refl)
value_by-waits (Text t) x v h = absurd (true_not_false false h refl)
value_by-waits (Formula t) x v h = let m = ev-cycle t v (waiting_is (ev t v) h) in (m.0, m.1, ap is_waiting m.2)
value_by-waits Tally x v h = absurd (true_not_false false h refl)
value_by-waits Choice x v h = absurd (true_not_false false h refl)

-- a cell with a reference has a formula
pub refers_formula : (k : Content) (d : ℕ) → content_mentions k d ≡ true → is_formula k ≡ true
refers_formula Blank d h = absurd (true_not_false false h refl)
refers_formula (Number n) d h = absurd (true_not_false false h refl)
refers_formula (Text t) d h = absurd (true_not_false false h refl)
refers_formula (Formula t) d h = refl
refers_formula Tally d h = absurd (true_not_false false h refl)
refers_formula Choice d h = absurd (true_not_false false h refl)

-- the empty cell holds no formula
empty_no_formula : is_formula (content_of empty_cell) ≡ false
unfolding empty_cell
empty_no_formula = refl

-- a cell with a formula lies in the grid
pub formula_below : (s : State) → IsInGrid s → (c : ℕ) → is_formula (content_of (s c)) ≡ true → c < CELLS
formula_below s inside c h =
    ⊎_elim (λ lt. lt)
    (λ out. absurd
    (true_not_false (is_formula (content_of (s c))) h
    (ap (λ x. is_formula (content_of x)) (inside c out) ∙ empty_no_formula)))
    (cases_lt c CELLS)

-- so only cells of the grid refer to others
pub refers_below : (s : State) → IsInGrid s → OnlyBelow CELLS (refers_to s)
refers_below s inside c d r = formula_below s inside c (refers_formula (content_of (s c)) d r)

-- a cell is not cyclic where none that it refers to is
pub not_cyclic : (s : State) (c : ℕ) → ((d : ℕ) → refers_to s c d ≡ true → ¬ Cyclic s d) → ¬ Cyclic s c
not_cyclic s c none h = acyclic_above (refers_to s) c none h

-- START

first_by-waits : (k : Content) (x : CellState) → is_waiting (first_by k x) ≡ true → is_formula k ≡ true
first_by-waits Blank x h = absurd (true_not_false false h refl)
first_by-waits (Number n) x h = absurd (true_not_false false h refl)
first_by-waits (Text t) x h = absurd (true_not_false false h refl)
first_by-waits (Formula t) x h = refl
first_by-waits Tally x h = absurd (true_not_false false h refl)
first_by-waits Choice x h = absurd (true_not_false false h refl)

first_by-value : (k : Content) (x : CellState) (v : Assignment) → is_waiting (first_by k x) ≡ false
    → first_by k x ≡ value_by k x v
first_by-value Blank x v h = refl
first_by-value (Number n) x v h = refl
first_by-value (Text t) x v h = refl
first_by-value (Formula t) x v h = absurd (true_not_false true refl h)
first_by-value Tally x v h = refl
first_by-value Choice x v h = refl

first_by-none : (k : Content) (x : CellState) (d : ℕ) → is_waiting (first_by k x) ≡ false
    → content_mentions k d ≡ true → ⊥
first_by-none Blank x d h m = true_not_false false m refl
first_by-none (Number n) x d h m = true_not_false false m refl
first_by-none (Text t) x d h m = true_not_false false m refl
first_by-none (Formula t) x d h m = true_not_false true refl h
first_by-none Tally x d h m = true_not_false false m refl
first_by-none Choice x d h m = true_not_false false m refl

pub progress_start : (s : State) (v : Assignment) → ((c : ℕ) → v c ≡ first_value (s c)) → Progress s v
progress_start s v start =
    let first : (c : ℕ) → is_waiting (v c) ≡ false → is_waiting (first_value (s c)) ≡ false =
    λ c h. sym (ap is_waiting (start c)) ∙ h in
    record {
      waiting = λ c h. first_by-waits (content_of (s c)) (s c) (sym (ap is_waiting (start c)) ∙ h);
      value = λ c h. start c ∙ first_by-value (content_of (s c)) (s c) v (first c h);
      closed = λ c d h r. absurd (first_by-none (content_of (s c)) (s c) d (first c h) r);
      acyclic = λ c h. not_cyclic s c (λ d r. absurd (first_by-none (content_of (s c)) (s c) d (first c h) r));
    }

-- STEP

module _ (s : State) (c : ℕ) (v w : Assignment) (p : Progress s v) (here_waits : is_waiting (v c) ≡ true)
    (ready : IsReady s v c) (e : Evaluates s c v w) where
  -- cells that did not wait kept their values
  kept : (d : ℕ) → is_waiting (v d) ≡ false → w d ≡ v d
  kept d h = e.others d
      (λ is. true_not_false (is_waiting (v c)) here_waits (subst (λ q. is_waiting (v q) ≡ false) is h))

  kept_on : (d : ℕ) → is_waiting (v d) ≡ false → is_waiting (w d) ≡ false
  kept_on d h = ap is_waiting (kept d h) ∙ h

  here_done : is_waiting (w c) ≡ false
  here_done =
      ⊎_elim
      (λ (h : is_waiting (w c) ≡ true).
      let m = value_by-waits (content_of (s c)) (s c) v (sym (ap is_waiting e.here) ∙ h) in
      absurd (true_not_false (is_waiting (v m.0)) m.2 (ready m.0 m.1)))
      (λ h. h)
      (bool_cases (is_waiting (w c)))

  -- each cell is c, or as before
  either : (d : ℕ) → (d ≡ c) ⊎ (w d ≡ v d)
  either d = ⊎_elim (λ is. inl is) (λ ne. inr (e.others d ne)) (cases_eq d c)

  value_done : (d : ℕ) → is_waiting (v d) ≡ false → w d ≡ value_of (s d) w
  value_done d h =
      kept d h ∙ (p.value d h
      ∙ value_by-agrees (content_of (s d)) (s d) v w (λ q r. sym (kept q (p.closed d q h r))))

  here_value : w c ≡ value_of (s c) w
  here_value = e.here ∙ value_by-agrees (content_of (s c)) (s c) v w (λ q r. sym (kept q (ready q r)))

  pub progress_step : Progress s w
  progress_step = record {
    waiting = λ d h. ⊎_elim
        (λ is. absurd (true_not_false (is_waiting (w c)) (subst (λ q. is_waiting (w q) ≡ true) is h) here_done))
        (λ same. p.waiting d (sym (ap is_waiting same) ∙ h))
        (either d);
    value = λ d h. ⊎_elim
        (λ is. subst (λ q. w q ≡ value_of (s q) w) (sym is) here_value)
        (λ same. value_done d (sym (ap is_waiting same) ∙ h))
        (either d);
    closed = λ d q h r. ⊎_elim
        (λ is. kept_on q (ready q (subst (λ x. refers_to s x q ≡ true) is r)))
        (λ same. kept_on q (p.closed d q (sym (ap is_waiting same) ∙ h) r))
        (either d);
    acyclic = λ d h. ⊎_elim
        (λ is. subst (λ q. ¬ Cyclic s q) (sym is) (not_cyclic s c (λ q r. p.acyclic q (ready q r))))
        (λ same. p.acyclic d (sym (ap is_waiting same) ∙ h))
        (either d);
  }

  pub step_done : is_waiting (w c) ≡ false
  step_done = here_done

-- END: where each cell that waits refers to one that waits, the values are settled

pub settled_at_end : (s : State) (v : Assignment) → IsInGrid s → Progress s v
    → ((c : ℕ) → is_waiting (v c) ≡ true → RefersToWaiting s v c) → IsSettled s v
settled_at_end s v inside p held =
    let Waits : ℕ → Type 0 = λ c. is_waiting (v c) ≡ true in
    let cyclic : (c : ℕ) → is_waiting (v c) ≡ true → Cyclic s c =
    stuck_is_cyclic (refers_to s) CELLS (refers_below s inside) Waits held in
    record {
      cycle = λ c. (
        (λ is. cyclic c (ap is_waiting is)),
        (λ cyc. ⊎_elim (λ h. waiting_is (v c) h) (λ h. absurd (p.acyclic c h cyc))
            (bool_cases (is_waiting (v c)))),
      );
      value = λ c no_cycle. ⊎_elim (λ h. absurd (no_cycle (cyclic c h))) (λ h. p.value c h)
          (bool_cases (is_waiting (v c)));
    }

-- UNIQUE

-- in a settled assignment it shows whether a cell is cyclic
pub cyclic_or_not : (s : State) (v : Assignment) → IsSettled s v → (c : ℕ) → Cyclic s c ⊎ ¬ Cyclic s c
cyclic_or_not s v settled c =
    ⊎_elim
    (λ h. inl ((settled.cycle c).0 (waiting_is (v c) h)))
    (λ h. inr (λ cyc. true_not_false (is_waiting (v c)) (ap is_waiting ((settled.cycle c).1 cyc)) h))
    (bool_cases (is_waiting (v c)))

pub settled_at_most_once : SettledAtMostOnce
settled_at_most_once s v w inside of_v of_w c =
    ⊎_elim
    (λ cyc. (of_v.cycle c).1 cyc ∙ sym ((of_w.cycle c).1 cyc))
    (λ no_cycle. acyclic_induction (refers_to s) CELLS
    (refers_below s inside)
    (λ a. v a ≡ w a)
    -- a cell that refers to a cyclic one is cyclic, so the cells that it refers to are equal
    (λ a out same. of_v.value a out ∙
    (value_by-agrees (content_of (s a)) (s a) v w same ∙ sym (of_w.value a out)))
    c no_cycle)
    (cyclic_or_not s v of_v c)
