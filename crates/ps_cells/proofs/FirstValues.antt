-- The first values of a change: touched cells without a formula show their values, cyclic cells of the region #CYCLE!.
use Rattle.std.proofs.Common.{◌≡◌, ◌≢◌, ℕ, Bool, true, false, inl, List, [], ◌∷◌, ◌++◌, sym, ◌∙◌}
use Rattle.std.proofs.Common.{⊎_elim, subst}
use Rattle.std.proofs.lemmas.Bool.{cases_eq}
use Rattle.ps_grid.specs.Chains.{In, InRegion}
use Rattle.ps_grid.proofs.ChainLemmas.{In-decided}
use Rattle.ps_grid.proofs.CycleLemmas.{IsCyclic-step}
use Rattle.ps_grid.proofs.RegionLemmas.{InRegion-touched}
use Rattle.ps_value.specs.declared.value.Value.TheVariants.{Err}
use Rattle.ps_value.specs.declared.value.Fault.{Fault}
use Rattle.ps_eval.specs.Items.{Assignment}
use Rattle.ps_delta.specs.State.{State}
use Rattle.ps_cells.specs.Settled.{content_of, refers_to, Cyclic, value_of}
use Rattle.ps_cells.specs.Inside.Walk.{formula_at, IsDue, Lists, Shows, Begun, Walked}
use Rattle.ps_cells.proofs.SettledValues.{true_not_false}
use Rattle.ps_cells.proofs.ChangedStates.{plain_agrees, cyclic_formula}
use Rattle.ps_cells.proofs.ListedCells.{In-pushed, In-end, In-pushed_cases, count_none}
use Rattle.ps_cells.proofs.Puts.{flag_stays, flag_inside, flag_due, stays_due, unflagged_kept}

module _ (t : State) (v : Assignment) (touched : List ℕ) where
  -- START: each cell shows what it showed, and none is flagged
  pub begun_start : (u : Assignment) (flags : ℕ → Bool) → ((c : ℕ) → u c ≡ v c) → ((c : ℕ) → flags c ≡ false)
      → Begun t v touched [] [] u flags
  begun_start u flags same off = record {
    among = λ c i. absurd (let f : false ≡ true = i in cc);
    cyclic = λ c i. absurd (let f : false ≡ true = i in cc);
    plain = λ c i. absurd (let f : false ≡ true = i in cc);
    cycle = λ c i. absurd (let f : false ≡ true = i in cc);
    kept = λ c formula out. same c;
    formula = λ c i. absurd (let f : false ≡ true = i in cc);
    passed = λ c d r acyclic f. same d;
    flagged = λ c on. absurd (true_not_false (flags c) on (off c));
    inside = λ c on. absurd (true_not_false (flags c) on (off c));
  }

  -- STEP: a touched cell without a formula shows its value
  module _ (walked closed listed : List ℕ) (x : ℕ) (u u2 : Assignment) (flags flags2 : ℕ → Bool)
      (b : Begun t v touched walked closed u flags) (fresh : ¬ In walked x) (among : In touched x)
      (plain : formula_at t x ≡ false) (lists : Lists (refers_to t) touched x listed)
      (shows : Shows x (value_of (t x) u) listed u u2 flags flags2) where
    not_cyclic : ¬ Cyclic t x
    not_cyclic cyc = true_not_false (formula_at t x) (cyclic_formula t x cyc) plain

    waited : u x ≡ v x
    waited = b.kept x (λ i. absurd (fresh i)) (λ i. not_cyclic (b.cyclic x i).1)

    here : u2 x ≡ value_of (t x) u2
    here = shows.here ∙ plain_agrees (content_of (t x)) (t x) u u2 plain

    earlier : (c : ℕ) → In walked c → formula_at t c ≡ false → u2 c ≡ value_of (t c) u2
    earlier c i p =
        shows.others c (λ e. fresh (subst (In walked) e i))
        ∙ (b.plain c i p ∙ plain_agrees (content_of (t c)) (t c) u u2 p)

    pub begun_plain : Begun t v touched (walked ++ x ∷ []) closed u2 flags2
    begun_plain = record {
      among = λ c i. ⊎_elim (λ w. b.among c w) (λ e. subst (In touched) (sym e) among) (In-pushed_cases walked x c i);
      cyclic = b.cyclic;
      plain = λ c i p. ⊎_elim
          (λ w. earlier c w p)
          (λ e. subst (λ q. u2 q ≡ value_of (t q) u2) (sym e) here)
          (In-pushed_cases walked x c i);
      cycle = λ c i. shows.others c (λ e. not_cyclic (subst (Cyclic t) e (b.cyclic c i).1)) ∙ b.cycle c i;
      kept = λ c formula out. shows.others c
          (λ e. let now : In (walked ++ x ∷ []) c = subst (In (walked ++ x ∷ [])) (sym e) (In-end walked x) in
          true_not_false (formula_at t x) (subst (λ q. formula_at t q ≡ true) e (formula now)) plain)
          ∙ b.kept c (λ i. formula (In-pushed walked x c i)) out;
      formula = λ c i f. ⊎_elim
          (λ w. flag_stays t touched x (value_of (t x) u) listed u u2 flags flags2 lists shows c (b.formula c w f))
          (λ e. absurd (true_not_false (formula_at t x) (subst (λ q. formula_at t q ≡ true) e f) plain))
          (In-pushed_cases walked x c i);
      passed = λ c d r acyclic off.
          unflagged_kept t touched x (value_of (t x) u) listed u u2 flags flags2 lists shows v waited c d r off
          (λ was_off. b.passed c d r acyclic was_off);
      flagged = λ c on.
          flag_due t touched x (value_of (t x) u) listed u u2 flags flags2 lists shows v waited c (b.flagged c) on;
      inside = λ c on. flag_inside t touched x (value_of (t x) u) listed u u2 flags flags2 lists shows
          (InRegion-touched (refers_to t) touched x among) c (b.inside c) on;
    }

  -- STEP: a touched cell with a formula is flagged
  pub begun_formula : (walked closed : List ℕ) (x : ℕ) (u : Assignment) (flags flags2 : ℕ → Bool)
      → Begun t v touched walked closed u flags → In touched x → formula_at t x ≡ true
      → flags2 x ≡ true → ((c : ℕ) → c ≢ x → flags2 c ≡ flags c)
      → Begun t v touched (walked ++ x ∷ []) closed u flags2
  begun_formula walked closed x u flags flags2 b among formula on others =
      let was_off : (c : ℕ) → flags2 c ≡ false → flags c ≡ false =
      λ c off. sym (others c (λ e. true_not_false (flags2 x) on (subst (λ q. flags2 q ≡ false) e off))) ∙ off in
      record {
        among = λ c i. ⊎_elim (λ w. b.among c w) (λ e. subst (In touched) (sym e) among) (In-pushed_cases walked x c i);
        cyclic = b.cyclic;
        plain = λ c i p. ⊎_elim
            (λ w. b.plain c w p)
            (λ e. absurd (true_not_false (formula_at t x) formula (subst (λ q. formula_at t q ≡ false) e p)))
            (In-pushed_cases walked x c i);
        cycle = b.cycle;
        kept = λ c f out. b.kept c (λ i. f (In-pushed walked x c i)) out;
        formula = λ c i f. ⊎_elim
            (λ e. subst (λ q. flags2 q ≡ true) (sym e) on)
            (λ ne. ⊎_elim (λ w. others c ne ∙ b.formula c w f) (λ e. absurd (ne e)) (In-pushed_cases walked x c i))
            (cases_eq c x);
        passed = λ c d r acyclic off. b.passed c d r acyclic (was_off c off);
        flagged = λ c is. ⊎_elim
            (λ e. inl (subst (In touched) (sym e) among))
            (λ ne. b.flagged c (sym (others c ne) ∙ is))
            (cases_eq c x);
        inside = λ c is. ⊎_elim
            (λ e. subst (InRegion (refers_to t) touched) (sym e) (InRegion-touched (refers_to t) touched x among))
            (λ ne. b.inside c (sym (others c ne) ∙ is))
            (cases_eq c x);
      }

  -- STEP: a cyclic cell of the region shows #CYCLE!
  module _ (walked closed : List ℕ) (x : ℕ) (u u2 : Assignment) (flags : ℕ → Bool)
      (b : Begun t v touched walked closed u flags) (region : InRegion (refers_to t) touched x) (cyc : Cyclic t x)
      (here : u2 x ≡ Err Fault.Cycle) (others : (c : ℕ) → c ≢ x → u2 c ≡ u c) where
    not_plain : (c : ℕ) → formula_at t c ≡ false → c ≢ x
    not_plain c p e =
        true_not_false (formula_at t x) (cyclic_formula t x cyc) (subst (λ q. formula_at t q ≡ false) e p)

    -- x shows what it showed before the change, or #CYCLE! already
    as_before : ¬ (u x ≡ v x) → u2 x ≡ u x
    as_before changed =
        ⊎_elim (λ i. here ∙ sym (b.cycle x i))
        (λ out. absurd (changed (b.kept x (λ i. cyclic_formula t x cyc) out)))
        (In-decided closed x)

    pub begun_cycle : Begun t v touched walked (closed ++ x ∷ []) u2 flags
    begun_cycle = record {
      among = b.among;
      cyclic = λ c i. ⊎_elim
          (λ w. b.cyclic c w)
          (λ e. subst (λ q. InRegion (refers_to t) touched q × Cyclic t q) (sym e) (region, cyc))
          (In-pushed_cases closed x c i);
      plain = λ c i p. others c (not_plain c p) ∙ (b.plain c i p ∙ plain_agrees (content_of (t c)) (t c) u u2 p);
      cycle = λ c i. ⊎_elim
          (λ e. subst (λ q. u2 q ≡ Err Fault.Cycle) (sym e) here)
          (λ ne. ⊎_elim (λ w. others c ne ∙ b.cycle c w) (λ e. absurd (ne e)) (In-pushed_cases closed x c i))
          (cases_eq c x);
      kept = λ c f out. others c (λ e. out (subst (In (closed ++ x ∷ [])) (sym e) (In-end closed x)))
          ∙ b.kept c f (λ i. out (In-pushed closed x c i));
      formula = b.formula;
      passed = λ c d r acyclic off. others d (λ e. acyclic (subst (Cyclic t) (sym e) cyc)) ∙ b.passed c d r acyclic off;
      flagged = λ c on. stays_due t touched v x u u2 (λ changed is. changed (sym (as_before changed) ∙ is)) others c
          (b.flagged c on);
      inside = b.inside;
    }

  -- END: where each touched cell and each cyclic cell of the region is dealt with, the walk of the frame may begin
  pub start : (walked closed : List ℕ) (u : Assignment) (flags : ℕ → Bool) → Begun t v touched walked closed u flags
      → ((c : ℕ) → In touched c → In walked c)
      → ((c : ℕ) → InRegion (refers_to t) touched c → Cyclic t c → In closed c)
      → Walked t v touched (λ c. ⊥) u flags 0
  start walked closed u flags b all_touched all_cyclic = record {
    outside = λ c out. b.kept c (λ i. absurd (out (InRegion-touched (refers_to t) touched c (b.among c i))))
        (λ i. out (b.cyclic c i).0);
    cyclic = λ c i cyc. b.cycle c (all_cyclic c i cyc);
    plain = λ c i p. b.plain c (all_touched c i) p;
    done = λ c none. absurd none;
    real = λ c none. absurd none;
    waiting = λ c f none. b.kept c (λ i. f.1) (λ i. f.2 (b.cyclic c i).1);
    flagged = λ c f none on. b.flagged c on;
    quiet = λ c f none off. (
      (λ i. true_not_false (flags c) (b.formula c (all_touched c i) f.1) off),
      (λ d r. b.passed c d r (λ cyc. f.2 (IsCyclic-step (refers_to t) c d r cyc)) off),
    );
    inside = b.inside;
    framed = λ c none. absurd none;
    closed = λ c d none. absurd none;
    counted = count_none (λ c. ⊥ × IsDue t touched v u c) (λ c p. p.0);
  }
